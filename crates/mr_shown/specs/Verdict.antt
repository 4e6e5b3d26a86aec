-- What a kept verdict says of a history.
use Rattle.std.specs.Prelude.{List}
use Rattle.mr_history.specs.History.{IsSafe}
use Rattle.mr_history.specs.Judgement.{ShowsInvented, ShowsStale}
use Rattle.mr_history.specs.declared.entry.Entry.{Entry}
use Rattle.mr_shown.specs.declared.verdict.KeptVerdict.{KeptVerdict}
use Rattle.mr_shown.specs.declared.verdict.KeptVerdict.TheVariants.{Safe, Stale, Invented}

-- the history is safe, or this is its first bad hit
abbrev pub JudgesSo : List Entry → KeptVerdict → Type 0
JudgesSo history Safe = IsSafe history
JudgesSo history (Stale get key delete) = ShowsStale history get key delete
JudgesSo history (Invented get key) = ShowsInvented history get key
