-- What single steps of asking do.
use Rattle.std.specs.Prelude.{◌≡◌, ℕ, ◌<◌, ◌⊎◌, List, [], ◌∷◌, length, true, false, Option, Some, None, Result, Ok, Err}
use Rattle.mr_history.specs.declared.op_id.OpId.{OpId}
use Rattle.mr_node.specs.Output.{reply_to_refusal}
use Rattle.mr_text.specs.declared.cause.Cause.{Cause}
use Rattle.mr_text.specs.declared.error.TextError.{TextError}
use Rattle.mr_pools.specs.Routing.{RoutingView}
use Rattle.mr_proxy.specs.declared.sheet.LegSheet.{LegSheet}
use Rattle.mr_proxy.specs.declared.error.ProxyError.{ProxyError}
use Rattle.mr_text.specs.declared.cause.Cause.TheVariants as cause
use Rattle.mr_text.specs.declared.request.Request.{Request}
use Rattle.mr_text.specs.declared.reply.Reply.{Reply}
use Rattle.mr_proxy.specs.Issue.{next_op, refusal_of, sheets_of}
use Rattle.mr_proxy.specs.declared.error.ProxyError.TheVariants.{NumbersSpent, OutOfMemory, NoRoom, NoSuchOp}
use Rattle.mr_proxy.specs.declared.step.Step.TheVariants.{Issue, GiveUp}
use Rattle.mr_loop.specs.declared.asker.Asker.{Asker}
use Rattle.mr_loop.specs.declared.asking.Pause.{Pause}
use Rattle.mr_loop.specs.declared.asking.Pause.TheVariants.{NeedsRoom, NeedsQueue, NeedsMemory}
use Rattle.mr_counting.specs.declared.client_counts.ClientCounts.{ClientCounts}
use Rattle.mr_loop.specs.declared.front.Begun.{Begun}
use Rattle.mr_loop.specs.declared.front.Begun.TheVariants.{Issued, Told, Later}
use Rattle.mr_loop.specs.declared.inbox.Inbox.{Inbox}
use Rattle.mr_loop.specs.declared.inbox.Input.{Input}
use Rattle.mr_loop.specs.declared.inbox.Input.TheVariants as input
use Rattle.mr_loop.specs.declared.link.Link.{Link}
use Rattle.mr_loop.specs.Events.{FrontView, Event, after_event, after_all}
use Rattle.mr_loop.specs.Asking.{Asking, is_full, tells, denies, given_up_unless, IsDoneFor, IsClear, HasPlaces}
use Rattle.mr_loop.specs.Links.{first_full, all_sent, all_up}

-- why what a client sent is held back: there is no room, a queue is full, or memory for its turn is refused
abbrev pub PausesFor : Asker → FrontView → List Link → Input → Pause → Type 0
PausesFor asker front links (input.Asks request) NeedsRoom = is_full front.core ≡ true
PausesFor asker front links (input.Asks request) (NeedsQueue number) =
    (is_full front.core ≡ false)
    × (first_full asker.limits.most_legs front.core.routing (sheets_of front.core asker.reading request) links ≡ Some number)
PausesFor asker front links input NeedsMemory = HasPlaces asker front links input
PausesFor asker front links input other = ⊥

-- what became of a request that was handed to the core
abbrev pub IssuesSo : Asker → Request → FrontView → Begun → FrontView → Type 0
IssuesSo asker request old (Issued issued) new =
    (refusal_of old.core ≡ None) × (asker.client < length old.clients)
    × (new ≡ after_event (Event.Does asker.client (Issue asker.reading request)) old)
    × (issued.op ≡ next_op old.core) × (issued.legs.items ≡ sheets_of old.core asker.reading request)
IssuesSo asker request old Told new =
    ((refusal_of old.core ≡ Some NumbersSpent) × (new ≡ after_all (denies asker.client request cause.NumbersSpent) old))
    ⊎ ((refusal_of old.core ≡ None) × (new ≡ after_all (denies asker.client request cause.OutOfMemory) old))
IssuesSo asker request old (Later back) new = (back ≡ request) × (new ≡ old)

-- the request was issued, and isn't begun after all: no leg of it went
abbrev pub IsWithdrawn : ℕ → OpId → Option Reply → FrontView → FrontView → Type 0
IsWithdrawn client op denial old new =
    (reading : ℕ) (request : Request) (before : FrontView) → client < length before.clients → op ≡ next_op before.core
    → old ≡ after_event (Event.Does client (Issue reading request)) before
    → new ≡ after_all (Event.Denies cause.OutOfMemory ∷ tells client denial)
    (after_all (Event.Alone (Issue reading request) ∷ Event.Alone (GiveUp (next_op before.core)) ∷ []) before)

-- the cause that a client is told of what the core refused
abbrev pub cause_of : ProxyError → Cause
cause_of NumbersSpent = cause.NumbersSpent
cause_of OutOfMemory = cause.OutOfMemory
cause_of NoRoom = cause.Busy
cause_of NoSuchOp = cause.LegLost

-- what a client sent was done, or nothing was, for this reason, and here it is back
abbrev pub AnswersSo : Asker → FrontView → List Link → Input → Result (Unit {0}) (Pause × Input) → FrontView → List Link → Type 0
AnswersSo asker front links input (Ok _) front' links' =
    IsClear asker front links input × IsDoneFor asker front links input front' links'
AnswersSo asker front links input (Err (pause, back)) front' links' =
    (back ≡ input) × (front' ≡ front) × (links' ≡ links) × PausesFor asker front links input pause

-- a request was begun, or nothing was done, and here it is back
abbrev pub AsksSo : Asker → FrontView → List Link → Request → Result (Unit {0}) Request → FrontView → List Link → Type 0
AsksSo asker front links request (Ok _) front' links' = IsDoneFor asker front links (input.Asks request) front' links'
AsksSo asker front links request (Err back) front' links' = (back ≡ request) × (front' ≡ front) × (links' ≡ links)

-- legs of a request that was issued: each went over its link, if that is up, and where one isn't the request was given up; or
-- none went for want of memory, and the request was withdrawn
abbrev pub IsSentOff : Asker → RoutingView → OpId → List LegSheet → Option Reply → FrontView → List Link → FrontView → List Link → Type 0
IsSentOff asker routing op legs denial old links new links' =
    ((links' ≡ all_sent asker routing legs links)
    × (new ≡ after_all (given_up_unless (all_up routing legs links) asker.client op) old))
    ⊎ ((links' ≡ links) × IsWithdrawn asker.client op denial old new)

-- a client was told why its text is refused, or nothing was done
abbrev pub RefusesSo : Asker → TextError → FrontView → Result (Unit {0}) (Pause × Input) → FrontView → Type 0
RefusesSo asker refusal old (Ok _) new = new ≡ after_all (tells asker.client (reply_to_refusal refusal)) old
RefusesSo asker refusal old (Err (pause, back)) new = (pause ≡ NeedsMemory) × (back ≡ input.Refused refusal) × (new ≡ old)

abbrev pub asking : Inbox → FrontView → List Link → ClientCounts → Asking
asking inbox front links counts = record { inbox = inbox; front = front; links = links; counts = counts }
