-- What a client is told of what it sent while the clock gives no reading: no request is begun.
use Rattle.std.specs.Prelude.{◌≡◌, ℕ, ◌⊎◌, true, false, List, Some, slice_get, slice_set}
use Rattle.mr_text.specs.declared.cause.Cause.TheVariants.{ClockFault}
use Rattle.mr_node.specs.Output.{reply_to_refusal}
use Rattle.mr_loop.specs.declared.asker.Limits.{Limits}
use Rattle.mr_loop.specs.declared.asking.Pause.{Pause}
use Rattle.mr_loop.specs.declared.asking.Pause.TheVariants.{NeedsBytes, NeedsRoom, NeedsReader, NeedsQueue, NeedsMemory, IsDone}
use Rattle.mr_counting.specs.declared.client_counts.ClientCounts.{ClientCounts}
use Rattle.mr_loop.specs.declared.inbox.Fetched.TheVariants.{Came, Nothing, NoMemory, Done}
use Rattle.mr_loop.specs.declared.inbox.Inbox.{Inbox}
use Rattle.mr_loop.specs.declared.inbox.Input.{Input}
use Rattle.mr_loop.specs.declared.inbox.Input.TheVariants as input
use Rattle.mr_loop.specs.Asking.{denies, is_behind, tells}
use Rattle.mr_counting.specs.ClientCounts.{held_once}
use Rattle.mr_loop.specs.Events.{FrontView, Event, after_all}
use Rattle.mr_loop.specs.Inboxes.{FetchIs, holding, waiting, going_on}
use Rattle.mr_loop.specs.LoopView.{LoopView, TakesPiece, EndsInput}

-- what happens for one thing that a client sent: its request isn't begun, and it is told so; a refused text is answered as ever
abbrev pub denied_for : ℕ → Input → List Event
denied_for client (input.Asks request) = denies client request ClockFault
denied_for client (input.Refused refusal) = tells client (reply_to_refusal refusal)

-- what a client sent, the core with the clients, and what is counted of clients
pub record Denying : Type 0 where
  pub inbox : Inbox
  pub front : FrontView
  pub counts : ClientCounts

-- the client was told of one thing that it sent
pub record DeniesOne (limits : Limits) (client : ℕ) (old new : Denying) : Type 0 where
  pub input : Input
  pub fetched : Inbox
  pub may : is_behind limits client old.front ≡ false
  pub came : FetchIs old.inbox (Came input) fetched
  pub goes_on : new.inbox ≡ going_on fetched
  pub told : new.front ≡ after_all (denied_for client input) old.front
  pub same_counts : new.counts ≡ old.counts

-- the client was told of things that it sent, one after the other
pub data DeniesAll (limits : Limits) (client : ℕ) (old : Denying) : Denying → Type 0 where
  starts : DeniesAll limits client old old
  goes_on : {between new : Denying} → DeniesAll limits client old between → DeniesOne limits client between new → DeniesAll limits client old new

-- nothing but the reader changes
pub record ReadsAway (limits : Limits) (client : ℕ) (old new : Denying) : Type 0 where
  pub may : is_behind limits client old.front ≡ false
  pub same_front : new.front ≡ old.front
  pub same_counts : new.counts ≡ old.counts

-- memory to read the next thing, or to tell the client of it, was refused: it is held back, and counted
pub record HoldsDenied (limits : Limits) (client : ℕ) (old new : Denying) : Type 0 where
  pub fetched : Inbox
  pub may : is_behind limits client old.front ≡ false
  pub held :
      (FetchIs old.inbox NoMemory fetched × (new.inbox ≡ waiting fetched))
      ⊎ ((it : Input) × FetchIs old.inbox (Came it) fetched × (new.inbox ≡ holding it fetched))
  pub same_front : new.front ≡ old.front
  pub counted : new.counts ≡ held_once fetched.waits old.counts

-- why the client isn't told of more
abbrev pub StopsDenying : Limits → ℕ → Pause → Denying → Denying → Type 0
StopsDenying limits client NeedsReader old new = (is_behind limits client old.front ≡ true) × (new ≡ old)
StopsDenying limits client NeedsBytes old new = FetchIs old.inbox Nothing new.inbox × ReadsAway limits client old new
StopsDenying limits client IsDone old new = FetchIs old.inbox Done new.inbox × ReadsAway limits client old new
StopsDenying limits client NeedsMemory old new = HoldsDenied limits client old new
StopsDenying limits client NeedsRoom old new = ⊥
StopsDenying limits client (NeedsQueue number) old new = ⊥

-- the client is told of what it sent, as far as it may be
pub record DeniesOn (limits : Limits) (client : ℕ) (pause : Pause) (old new : Denying) : Type 0 where
  pub between : Denying
  pub did : DeniesAll limits client old between
  pub stops : StopsDenying limits client pause between new

-- what a client sent, with the rest of a loop that it may change
abbrev pub denying : Inbox → FrontView → ClientCounts → Denying
denying inbox front counts = record { inbox = inbox; front = front; counts = counts }

-- a client was told of what it sent
abbrev pub with_denied_client : ℕ → Denying → LoopView → LoopView
with_denied_client client after l = record l {
  front = after.front;
  inboxes = slice_set l.inboxes client after.inbox;
  client_counts = after.counts;
}

-- bytes of a client came, and it was told of what is whole of them as far as it may be
pub record ClientBytesDenied (client : ℕ) (piece : List ℕ) (old : LoopView) (pause : Pause) (new : LoopView) : Type 0 where
  pub inbox : Inbox
  pub fed : Inbox
  pub after : Denying
  pub there : slice_get old.inboxes client ≡ Some inbox
  pub takes : TakesPiece piece inbox fed
  pub denies : DeniesOn old.limits client pause (denying fed old.front old.client_counts) after
  pub becomes : new ≡ with_denied_client client after old

-- a client sends no more, and it was told of what is whole of what it sent as far as it may be
pub record ClientEndDenied (client : ℕ) (old : LoopView) (pause : Pause) (new : LoopView) : Type 0 where
  pub inbox : Inbox
  pub ended : Inbox
  pub after : Denying
  pub there : slice_get old.inboxes client ≡ Some inbox
  pub ends : EndsInput inbox ended
  pub denies : DeniesOn old.limits client pause (denying ended old.front old.client_counts) after
  pub becomes : new ≡ with_denied_client client after old
