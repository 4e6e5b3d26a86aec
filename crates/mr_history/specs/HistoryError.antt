-- The numbers of the refusals.
use Rattle.std.specs.Prelude.{ℕ}
use Rattle.mr_history.specs.declared.error.HistoryError.{HistoryError}
use Rattle.mr_history.specs.declared.error.HistoryError.TheVariants.{OutOfMemory}

-- the number of each refusal
abbrev pub number_of_refusal : HistoryError → ℕ
number_of_refusal OutOfMemory = 1
