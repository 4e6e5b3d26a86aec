-- What holds of whole runs.
use Rattle.std.specs.Prelude.{◌≡◌, ◌+◌, ◌≤◌, List, AllPairs}
use Rattle.mr_log.specs.Waiting.{kind_in, pause}
use Rattle.mr_log.specs.Runs.{Told}

-- of two lines of a kind the later was said a pause after the earlier, or more
abbrev pub AreApart : List Told → Type 0
AreApart told = AllPairs (λ earlier later. kind_in earlier.line ≡ kind_in later.line → earlier.at + pause ≤ later.at) told
