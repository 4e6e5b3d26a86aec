-- What a client's session has read, done and written when it ends.
use Rattle.std.specs.Prelude.{◌≡◌, ℕ, ◌+◌, ◌≤◌, List, ◌++◌, Bool, Result, Ok, Err, count_by}
use Rattle.mr_text.specs.Requests.{SpellsRequest}
use Rattle.mr_text.specs.Source.{SourceView}
use Rattle.mr_text.specs.declared.request.Request.{Request}
use Rattle.mr_node.specs.Outcome.{Outcomes}
use Rattle.mr_node.specs.Output.{IsServed}
use Rattle.mr_node.specs.Session.{Station, SessionIs, SessionServes}
use Rattle.mr_node.specs.declared.ended.Ended.{Ended}
use Rattle.mr_node.specs.declared.session.SessionFault.{SessionFault}
use Rattle.mr_node.specs.declared.session.SessionFault.TheVariants as fault
use Rattle.mr_proxy.specs.Answer.{AnswerView}
use Rattle.mr_desks.specs.Carriers.{CarriersView}
use Rattle.mr_desks.specs.declared.error.WorkerError.{WorkerError}
use Rattle.mr_desks.specs.declared.error.WorkerError.TheVariants.{LinkBroken, Mismatch, BookDiffers, ReadFault, WriteFault, TurnsSpent, OutOfMemory, NoThread}

-- what a request does for which no answer is found: the clock and the state before it, the request, and both after it
abbrev pub Fails : Type 0 → Type 0 → Type 1
Fails C P = C → P → Request → C → P → Type 0

-- what a client's requests come to, with an answer and without one
pub record ClientRules (C P : Type 0) : Type 1 where
  pub Answered : Outcomes C P
  pub InVain : Fails C P

-- a fault of a session, as a client's session tells it
abbrev pub worker_error_of : SessionFault → WorkerError
worker_error_of fault.ReadFault = ReadFault
worker_error_of fault.WriteFault = WriteFault
worker_error_of fault.TurnsSpent = TurnsSpent
worker_error_of fault.OutOfMemory = OutOfMemory

-- how many requests that were issued have no answer
abbrev pub unanswered_count : Result Ended WorkerError → ℕ
unanswered_count (Ok how) = 0
unanswered_count (Err LinkBroken) = 0
unanswered_count (Err Mismatch) = 0
unanswered_count (Err BookDiffers) = 1
unanswered_count (Err ReadFault) = 0
unanswered_count (Err WriteFault) = 0
unanswered_count (Err TurnsSpent) = 0
unanswered_count (Err OutOfMemory) = 0
unanswered_count (Err NoThread) = 0

-- the request was given up
abbrev pub is_given_up : AnswerView → Bool
is_given_up answer = answer.given_up

-- how many of the answers were given up
abbrev pub given_up_count : List AnswerView → ℕ
given_up_count answers = count_by is_given_up answers

-- at most as many of the answers were given up as legs were lost or came back
abbrev pub FewAreGivenUp : List AnswerView → CarriersView → CarriersView → Type 0
FewAreGivenUp answers old new = given_up_count answers + (old.losses + old.brought) ≤ new.losses + new.brought

-- what came next was a request that was issued, and for which no answer was found: nothing is written for it
abbrev pub IsInVain : {C P : Type 0} → ClientRules C P → List ℕ → Station C P → Station C P → Type 0
IsInVain rules rest old new =
    (request : Request) × (spelling : List ℕ) × (after : List ℕ) × (rest ≡ spelling ++ after)
    × SpellsRequest spelling request × IsServed request
    × rules.InVain old.clock old.node request new.clock new.node × (new.writer ≡ old.writer)

module _ {C P : Type 0} (rules : ClientRules C P) (reader reader' : SourceView) (old new : Station C P) where
  -- What any session has read, done and written when it ends. Where a request has no answer, a beginning was served before.
  abbrev pub ClientSessionIs : Result Ended WorkerError → Type 0
  ClientSessionIs (Ok how) = SessionIs rules.Answered reader reader' old new (Ok how)
  ClientSessionIs (Err ReadFault) = SessionIs rules.Answered reader reader' old new (Err fault.ReadFault)
  ClientSessionIs (Err WriteFault) = SessionIs rules.Answered reader reader' old new (Err fault.WriteFault)
  ClientSessionIs (Err TurnsSpent) = SessionIs rules.Answered reader reader' old new (Err fault.TurnsSpent)
  ClientSessionIs (Err OutOfMemory) = SessionIs rules.Answered reader reader' old new (Err fault.OutOfMemory)
  ClientSessionIs (Err BookDiffers) =
      (rest : List ℕ) × (between : Station C P)
      × SessionServes rules.Answered reader reader' old between rest × IsInVain rules rest between new
  ClientSessionIs (Err LinkBroken) = ⊥
  ClientSessionIs (Err Mismatch) = ⊥
  ClientSessionIs (Err NoThread) = ⊥
