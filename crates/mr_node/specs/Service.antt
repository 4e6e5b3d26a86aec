-- What the service of requests over a node has read, done and written when it ends: what a session has.
use Rattle.std.specs.Prelude.{Result, Ok, Err}
use Rattle.mr_text.specs.Source.{SourceView}
use Rattle.mr_node.specs.declared.ended.Ended.{Ended}
use Rattle.mr_node.specs.declared.error.NodeError.{NodeError}
use Rattle.mr_node.specs.declared.error.NodeError.TheVariants.{ZeroCapacity, OutOfMemory, ReadFault, WriteFault, TurnsSpent}
use Rattle.mr_node.specs.declared.session.SessionFault.{SessionFault}
use Rattle.mr_node.specs.declared.session.SessionFault.TheVariants as fault
use Rattle.mr_node.specs.Session.{Station, SessionIs}
use Rattle.mr_node.specs.Outcome.{Outcomes}

-- a fault of a session, as the service tells it
abbrev pub node_error_of : SessionFault → NodeError
node_error_of fault.ReadFault = ReadFault
node_error_of fault.WriteFault = WriteFault
node_error_of fault.TurnsSpent = TurnsSpent
node_error_of fault.OutOfMemory = OutOfMemory

module _ {C P : Type 0} (Does : Outcomes C P) (reader reader' : SourceView) (old new : Station C P) where
  abbrev pub ServiceIs : Result Ended NodeError → Type 0
  ServiceIs (Ok ended) = SessionIs Does reader reader' old new (Ok ended)
  ServiceIs (Err ReadFault) = SessionIs Does reader reader' old new (Err fault.ReadFault)
  ServiceIs (Err WriteFault) = SessionIs Does reader reader' old new (Err fault.WriteFault)
  ServiceIs (Err TurnsSpent) = SessionIs Does reader reader' old new (Err fault.TurnsSpent)
  ServiceIs (Err OutOfMemory) = SessionIs Does reader reader' old new (Err fault.OutOfMemory)
  ServiceIs (Err ZeroCapacity) = ⊥
