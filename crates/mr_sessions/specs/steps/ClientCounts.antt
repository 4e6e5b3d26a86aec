-- How much a client's session has read when it ends.
use Rattle.std.specs.Prelude.{◌≡◌, ◌≢◌, ℕ, Result, Err}
use Rattle.mr_text.specs.Source.{SourceView}
use Rattle.mr_node.specs.declared.ended.Ended.{Ended}
use Rattle.mr_node.specs.Session.{ReadsWithin, SpendsTurns, OneReadFailed, NoReadFailed}
use Rattle.mr_desks.specs.declared.error.WorkerError.{WorkerError}
use Rattle.mr_desks.specs.declared.error.WorkerError.TheVariants.{ReadFault, TurnsSpent}

pub record ClientCounts (turns : ℕ) (old new : SourceView) (result : Result Ended WorkerError) : Type 0 where
  pub within : ReadsWithin turns old new
  pub spent : result ≡ Err TurnsSpent → SpendsTurns turns old new
  pub failed : result ≡ Err ReadFault → OneReadFailed old new
  pub well : result ≢ Err ReadFault → NoReadFailed old new
