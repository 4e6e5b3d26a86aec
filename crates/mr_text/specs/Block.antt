-- What a block is: the data of an item.
use Rattle.std.specs.Prelude.{ℕ, ◌≤◌, List, length}
use Rattle.mr_text.specs.Limits.{MAX_BLOCK}

-- bytes of any value, no more than a block may have
abbrev pub IsBlock : List ℕ → Type 0
IsBlock bytes = length bytes ≤ MAX_BLOCK
