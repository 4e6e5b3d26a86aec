-- What a recorded proxy does with a request that is issued.
use Rattle.std.specs.Prelude.{◌≡◌, ℕ, ◌+◌, ◌-◌, ◌^◌, ◌==◌, ◌||◌, ◌⊎◌, nat_le, List, [], ◌∷◌, ◌++◌, length, Option, Some, None, if◌then◌else◌}
use Rattle.mr_text.specs.declared.request.Request.{Request}
use Rattle.mr_history.specs.declared.op_id.OpId.{OpId}
use Rattle.mr_proxy.specs.Issue.{next_op, sheets_of, after_issue}
use Rattle.mr_proxy.specs.Transitions.{open_legs_of}
use Rattle.mr_proxy.specs.declared.sheet.LegSheet.{LegSheet}
use Rattle.mr_proxy.specs.declared.step.Step.TheVariants.{Issue}
use Rattle.mr_desks.specs.Recorded.{Recorded}
use Rattle.mr_desks.specs.declared.desk_error.DeskError.{DeskError}
use Rattle.mr_desks.specs.declared.desk_error.DeskError.TheVariants.{ClockFault, NumbersSpent, NoRoom, BookFull, OutOfMemory}

-- what one call of a clock does: the clock before it, the reading or none at a fault, and the clock after it
abbrev pub ClockRelation : Type 0 → Type 1
ClockRelation K = K → Option ℕ → K → Type 0

-- a clock before and after a call: what one call of a clock of its type does, and how often a clock failed
pub record ClockCall (K : Type 0) : Type 1 where
  pub reads : ClockRelation K
  pub failures : K → ℕ
  pub before : K
  pub after : K

-- a clock's call, of these four
abbrev pub clock_call : {K : Type 0} → ClockRelation K → (K → ℕ) → K → K → ClockCall K
clock_call reads failures before after = record { reads = reads; failures = failures; before = before; after = after }

-- the clock was read once, and gave this reading; or it gave none, which is one failure more
abbrev pub ClockGives : {K : Type 0} → ClockCall K → Option ℕ → Type 0
ClockGives call (Some t) = call.reads call.before (Some t) call.after × (call.failures call.after ≡ call.failures call.before)
ClockGives call None = call.reads call.before None call.after × (call.failures call.after ≡ call.failures call.before + 1)

-- a proxy, and how many requests a session issued through it
pub record WithShare (P : Type 0) : Type 0 where
  pub proxy : P
  pub share : ℕ

-- a proxy with this share
abbrev pub with_share : {P : Type 0} → P → ℕ → WithShare P
with_share proxy share = record { proxy = proxy; share = share }

-- the most steps that the book may need once a request of so many legs is issued: one for each leg that may answer yet
abbrev pub steps_needed : Recorded → ℕ → ℕ
steps_needed r legs = length r.steps + open_legs_of r.core + 1 + legs

-- why a request isn't issued at this reading, memory aside: the first of these that holds
abbrev pub why_refused : WithShare Recorded → ℕ → Request → Option DeskError
why_refused old t request =
    if nat_le (2 ^ 64 - 1) old.share || (old.proxy.core.next == 2 ^ 64 - 1) then Some NumbersSpent
    else if nat_le old.proxy.core.room (length old.proxy.core.outstanding) then Some NoRoom
    else if nat_le (steps_needed old.proxy (length (sheets_of old.proxy.core t request))) old.proxy.limit then None
    else Some BookFull

-- the refusal, or want of memory where there is none
abbrev pub IsDeskRefusal : Option DeskError → DeskError → Type 0
IsDeskRefusal None e = e ≡ OutOfMemory
IsDeskRefusal (Some refusal) e = e ≡ refusal

-- the proxy issued the request, and the book says so
abbrev pub after_issued : Recorded → ℕ → Request → Recorded
after_issued r t request =
    record { core = after_issue r.core t request; steps = r.steps ++ Issue t request ∷ []; limit = r.limit }

-- The request was issued at this reading, as the core issues it: at the larger of the reading and the last one. The book says
-- so, and the share counts it.
pub record IssuesAt (old : WithShare Recorded) (t : ℕ) (request : Request) (op : OpId) (legs : List LegSheet) (new : WithShare Recorded) : Type 0 where
  pub accepted : why_refused old t request ≡ None
  pub state : new.proxy ≡ after_issued old.proxy t request
  pub counted : new.share ≡ old.share + 1
  pub named : op ≡ next_op old.proxy.core
  pub sent : legs ≡ sheets_of old.proxy.core t request

-- the clock was read once, and the request was issued at that reading
abbrev pub RecordedIssues : {K : Type 0} → ClockCall K → WithShare Recorded → Request → OpId → List LegSheet → WithShare Recorded → Type 0
RecordedIssues call old request op legs new = (t : ℕ) × ClockGives call (Some t) × IssuesAt old t request op legs new

-- the clock was read once, and the request was refused at that reading, or there was none
abbrev pub RecordedRefuses : {K : Type 0} → ClockCall K → WithShare Recorded → Request → DeskError → Type 0
RecordedRefuses call old request e =
    ((t : ℕ) × ClockGives call (Some t) × IsDeskRefusal (why_refused old t request) e) ⊎ (ClockGives call None × (e ≡ ClockFault))
