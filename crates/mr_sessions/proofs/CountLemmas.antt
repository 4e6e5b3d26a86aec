-- How much a client's session has read, and of how many turns.
use Rattle.std.proofs.Common.{◌≡◌, ◌≢◌, ℕ, Bool, false, Result, Err, refl, ap}
use Rattle.mr_text.specs.Source.{SourceView}
use Rattle.mr_node.specs.declared.ended.Ended.{Ended}
use Rattle.mr_node.specs.declared.session.SessionFault.{SessionFault}
use Rattle.mr_node.specs.declared.session.SessionFault.TheVariants as fault
use Rattle.mr_node.specs.steps.Counts.{Counts}
use Rattle.mr_node.proofs.CountLemmas.{ReadSoFar, within_so, spent_so}
use Rattle.mr_desks.specs.declared.error.WorkerError.{WorkerError}
use Rattle.mr_desks.specs.declared.error.WorkerError.TheVariants.{ReadFault, TurnsSpent}
use Rattle.mr_sessions.specs.ClientSession.{worker_error_of}
use Rattle.mr_sessions.specs.steps.ClientCounts.{ClientCounts}

abbrev failure : WorkerError → Result Ended WorkerError
failure e = Err e

-- a session that ends so was not cut off by the reader, nor by its turns
pub stops_well : (e : WorkerError) → e ≢ ReadFault → failure e ≢ Err ReadFault
stops_well e other is = other (let same : failure e ≡ Err ReadFault = is in cc)

pub stops_unspent : (e : WorkerError) → e ≢ TurnsSpent → failure e ≢ Err TurnsSpent
stops_unspent e other is = other (let same : failure e ≡ Err TurnsSpent = is in cc)

-- the session ends with no further read
pub client_read_by : (turns left : ℕ) (ended : Bool) (old new : SourceView) → ReadSoFar turns left ended old new
    → (result : Result Ended WorkerError) → result ≢ Err ReadFault → (result ≡ Err TurnsSpent → (left ≡ 0) × (ended ≡ false))
    → ClientCounts turns old new result
client_read_by turns left ended old new so result other none = record {
  within = within_so turns left ended old new so;
  spent = λ e. spent_so turns left ended old new so (none e).0 (none e).1;
  failed = λ e. absurd (other e);
  well = λ e. so.well;
}

is_fault : (f g : SessionFault) → worker_error_of f ≡ worker_error_of g → f ≡ g
is_fault fault.ReadFault fault.ReadFault is = refl
is_fault fault.ReadFault fault.WriteFault is = cc
is_fault fault.ReadFault fault.TurnsSpent is = cc
is_fault fault.ReadFault fault.OutOfMemory is = cc
is_fault fault.WriteFault fault.ReadFault is = cc
is_fault fault.WriteFault fault.WriteFault is = refl
is_fault fault.WriteFault fault.TurnsSpent is = cc
is_fault fault.WriteFault fault.OutOfMemory is = cc
is_fault fault.TurnsSpent fault.ReadFault is = cc
is_fault fault.TurnsSpent fault.WriteFault is = cc
is_fault fault.TurnsSpent fault.TurnsSpent is = refl
is_fault fault.TurnsSpent fault.OutOfMemory is = cc
is_fault fault.OutOfMemory fault.ReadFault is = cc
is_fault fault.OutOfMemory fault.WriteFault is = cc
is_fault fault.OutOfMemory fault.TurnsSpent is = cc
is_fault fault.OutOfMemory fault.OutOfMemory is = refl

-- a fault of the session, as the client's session tells it
pub client_counts : (turns : ℕ) (old new : SourceView) (f : SessionFault) → Counts turns old new (Err f)
    → ClientCounts turns old new (Err (worker_error_of f))
client_counts turns old new f counts = record {
  within = counts.within;
  spent = λ e. counts.spent (ap (λ (x : SessionFault). Err x) (is_fault f fault.TurnsSpent (same (worker_error_of f) TurnsSpent e)));
  failed = λ e. counts.failed (ap (λ (x : SessionFault). Err x) (is_fault f fault.ReadFault (same (worker_error_of f) ReadFault e)));
  well = λ other. counts.well (λ e. other (told f e));
}
  where
    outcome : SessionFault → Result Ended SessionFault
    outcome g = Err g

    same : (one other : WorkerError) → failure one ≡ failure other → one ≡ other
    same one other is = cc

    told : (g : SessionFault) → outcome g ≡ Err fault.ReadFault → failure (worker_error_of g) ≡ Err ReadFault
    told fault.ReadFault is = refl
    told fault.WriteFault is = cc
    told fault.TurnsSpent is = cc
    told fault.OutOfMemory is = cc
