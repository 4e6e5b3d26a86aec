-- What is begun of what a client sent, and why no more of it is.
use Rattle.std.specs.Prelude.{◌≡◌, ℕ, ◌⊎◌, Bool, true, false, ◌||◌, List, [], ◌∷◌, ◌++◌, length, nat_lt, nat_le, Option, Some, None, slice_get, if◌then◌else◌}
use Rattle.mr_text.specs.declared.cause.Cause.{Cause}
use Rattle.mr_text.specs.declared.cause.Cause.TheVariants as cause
use Rattle.mr_text.specs.declared.reply.Reply.{Reply}
use Rattle.mr_text.specs.declared.reply.Reply.TheVariants.{ServerError}
use Rattle.mr_text.specs.declared.request.Request.{Request}
use Rattle.mr_text.specs.declared.request.Request.TheVariants.{Quit}
use Rattle.mr_history.specs.declared.op_id.OpId.{OpId}
use Rattle.mr_node.specs.Output.{is_silent, reply_to_refusal}
use Rattle.mr_proxy.specs.Issue.{next_op, refusal_of, sheets_of}
use Rattle.mr_proxy.specs.ProxyView.{ProxyView}
use Rattle.mr_proxy.specs.declared.error.ProxyError.{ProxyError}
use Rattle.mr_proxy.specs.declared.error.ProxyError.TheVariants.{NoRoom, OutOfMemory, NumbersSpent, NoSuchOp}
use Rattle.mr_proxy.specs.declared.step.Step.TheVariants.{Issue, GiveUp}
use Rattle.mr_loop.specs.declared.asker.Asker.{Asker}
use Rattle.mr_loop.specs.declared.asker.Limits.{Limits}
use Rattle.mr_loop.specs.declared.asking.Pause.{Pause}
use Rattle.mr_loop.specs.declared.asking.Pause.TheVariants.{NeedsBytes, NeedsRoom, NeedsReader, NeedsQueue, NeedsMemory, IsDone}
use Rattle.mr_loop.specs.declared.client.Client.{Client}
use Rattle.mr_counting.specs.ClientCounts.{held_once}
use Rattle.mr_counting.specs.declared.client_counts.ClientCounts.{ClientCounts}
use Rattle.mr_loop.specs.declared.inbox.Fetched.TheVariants.{Came, Nothing, NoMemory, Done}
use Rattle.mr_loop.specs.declared.inbox.Inbox.{Inbox}
use Rattle.mr_loop.specs.declared.inbox.Input.{Input}
use Rattle.mr_loop.specs.declared.inbox.Input.TheVariants as input
use Rattle.mr_loop.specs.declared.link.Link.{Link}
use Rattle.mr_loop.specs.Events.{FrontView, Event, after_all}
use Rattle.mr_loop.specs.Inboxes.{FetchIs, holding, waiting, going_on}
use Rattle.mr_loop.specs.Links.{all_sent, all_up, first_full}
use Rattle.mr_loop.specs.Unread.{unread}

-- the core refuses for want of room
abbrev pub is_no_room : Option ProxyError → Bool
is_no_room None = false
is_no_room (Some NoRoom) = true
is_no_room (Some OutOfMemory) = false
is_no_room (Some NumbersSpent) = false
is_no_room (Some NoSuchOp) = false

-- as many requests are under way as there is room for
abbrev pub is_full : ProxyView → Bool
is_full core = is_no_room (refusal_of core)

-- a client is behind: it left too much unread, or too many of its requests are begun that it wasn't told of
abbrev pub is_behind_in : Limits → Option Client → Bool
is_behind_in limits None = false
is_behind_in limits (Some client) = nat_lt limits.most_unread (unread client) || nat_le limits.most_begun (length client.turns)

-- the client has more of its answers unread than it may, or as many of its requests begun as it may that it wasn't told of
abbrev pub is_behind : Limits → ℕ → FrontView → Bool
is_behind limits place f = is_behind_in limits (slice_get f.clients place)

-- the client is told this reply, where there is one
abbrev pub tells : ℕ → Option Reply → List Event
tells client None = []
tells client (Some reply) = Event.Tells client reply ∷ []

-- what a client is told for this cause, which wants no answer or wants one
abbrev pub denial_of : Bool → Cause → Option Reply
denial_of silent cause = if silent then None else Some (ServerError cause)

-- what the client of a request is told that isn't begun for this cause: nothing where it wants no answer
abbrev pub denial : Request → Cause → Option Reply
denial request cause = denial_of (is_silent request) cause

-- a request isn't begun for this cause, and its client is told
abbrev pub denies : ℕ → Request → Cause → List Event
denies client request cause = Event.Denies cause ∷ tells client (denial request cause)

-- the request is given up at once where one of its legs has no link that is up
abbrev pub given_up_unless : Bool → ℕ → OpId → List Event
given_up_unless true client op = []
given_up_unless false client op = Event.Does client (GiveUp op) ∷ []

-- a request is issued at this reading, and each of its legs went over its link, if that was up
abbrev pub begins : Asker → Request → Bool → ProxyView → List Event
begins asker request all core =
    Event.Does asker.client (Issue asker.reading request) ∷ given_up_unless all asker.client (next_op core)

-- memory for its legs was refused: it is issued and given up, and none of its legs went
abbrev pub fails : Asker → Request → ProxyView → List Event
fails asker request core = Event.Alone (Issue asker.reading request) ∷ Event.Alone (GiveUp (next_op core)) ∷ []

module _ (asker : Asker) (front : FrontView) (links : List Link) where
  -- a request is begun
  pub record IsBegun (request : Request) (front' : FrontView) (links' : List Link) : Type 0 where
    pub accepted : refusal_of front.core ≡ None
    pub went : links' ≡ all_sent asker front.core.routing (sheets_of front.core asker.reading request) links
    pub happens : front' ≡
        after_all (begins asker request (all_up front.core.routing (sheets_of front.core asker.reading request) links) front.core) front

  -- a request isn't begun since no number is left, and its client is told
  pub record HasNoNumber (request : Request) (front' : FrontView) : Type 0 where
    pub spent : refusal_of front.core ≡ Some NumbersSpent
    pub happens : front' ≡ after_all (denies asker.client request cause.NumbersSpent) front

  -- memory for a request was refused before any of its legs went, and its client is told
  pub record HasNoMemory (request : Request) (front' : FrontView) : Type 0 where
    pub accepted : refusal_of front.core ≡ None
    pub before : List Event
    pub either : (before ≡ []) ⊎ (before ≡ fails asker request front.core)
    pub happens : front' ≡ after_all (before ++ denies asker.client request cause.OutOfMemory) front

  -- a quit asks nothing
  pub record AsksNothing (request : Request) (front' : FrontView) : Type 0 where
    pub quits : request ≡ Quit
    pub unchanged : front' ≡ front

  -- what is done for what a client sent
  abbrev pub IsDoneFor : Input → FrontView → List Link → Type 0
  IsDoneFor (input.Asks request) front' links' =
      IsBegun request front' links' ⊎ (AsksNothing request front' × (links' ≡ links)) ⊎ (HasNoNumber request front' × (links' ≡ links)) ⊎ (HasNoMemory request front' × (links' ≡ links))
  IsDoneFor (input.Refused refusal) front' links' =
      (front' ≡ after_all (tells asker.client (reply_to_refusal refusal)) front) × (links' ≡ links)

-- none of the links that a request would go over has as many legs as the bound
abbrev pub IsClear : Asker → FrontView → List Link → Input → Type 0
IsClear asker front links (input.Asks request) =
    first_full asker.limits.most_legs front.core.routing (sheets_of front.core asker.reading request) links ≡ None
IsClear asker front links (input.Refused refusal) = Unit {0}

-- there is room for what a client sent, and none of the links that it would go over is full
abbrev pub HasPlaces : Asker → FrontView → List Link → Input → Type 0
HasPlaces asker front links (input.Asks request) = (is_full front.core ≡ false) × IsClear asker front links (input.Asks request)
HasPlaces asker front links (input.Refused refusal) = Unit {0}

-- what a client sent, the core with the clients, the links, and what is counted of clients
pub record Asking : Type 0 where
  pub inbox : Inbox
  pub front : FrontView
  pub links : List Link
  pub counts : ClientCounts

-- one thing that the client sent was done
pub record DoesOne (asker : Asker) (old new : Asking) : Type 0 where
  pub input : Input
  pub fetched : Inbox
  pub may : is_behind asker.limits asker.client old.front ≡ false
  pub came : FetchIs old.inbox (Came input) fetched
  pub clear : IsClear asker old.front old.links input
  pub done : IsDoneFor asker old.front old.links input new.front new.links
  pub goes_on : new.inbox ≡ going_on fetched
  pub same_counts : new.counts ≡ old.counts

-- things that the client sent were done, one after the other
pub data DoesAll (asker : Asker) (old : Asking) : Asking → Type 0 where
  starts : DoesAll asker old old
  goes_on : {between new : Asking} → DoesAll asker old between → DoesOne asker between new → DoesAll asker old new

-- the next one came, and is held back
pub record HoldsBack (asker : Asker) (old new : Asking) (input : Input) : Type 0 where
  pub fetched : Inbox
  pub may : is_behind asker.limits asker.client old.front ≡ false
  pub came : FetchIs old.inbox (Came input) fetched
  pub held : new ≡ record old { inbox = holding input fetched; counts = held_once fetched.waits old.counts }

-- the next one is there, and memory to read it was refused: it is held back
pub record LeavesUnread (asker : Asker) (old new : Asking) : Type 0 where
  pub fetched : Inbox
  pub may : is_behind asker.limits asker.client old.front ≡ false
  pub refused : FetchIs old.inbox NoMemory fetched
  pub left : new ≡ record old { inbox = waiting fetched; counts = held_once fetched.waits old.counts }

-- nothing but the reader changes
pub record ReadsOn (asker : Asker) (old new : Asking) : Type 0 where
  pub may : is_behind asker.limits asker.client old.front ≡ false
  pub same_front : new.front ≡ old.front
  pub same_links : new.links ≡ old.links
  pub same_counts : new.counts ≡ old.counts

-- why no more is done; what is held back for want of room, of a place in a queue or of memory is counted
abbrev pub StopsFor : Asker → Pause → Asking → Asking → Type 0
StopsFor asker NeedsReader old new = (is_behind asker.limits asker.client old.front ≡ true) × (new ≡ old)
StopsFor asker NeedsBytes old new = FetchIs old.inbox Nothing new.inbox × ReadsOn asker old new
StopsFor asker IsDone old new = FetchIs old.inbox Done new.inbox × ReadsOn asker old new
StopsFor asker NeedsRoom old new =
    (request : Request) × HoldsBack asker old new (input.Asks request) × (is_full old.front.core ≡ true)
StopsFor asker (NeedsQueue number) old new =
    (request : Request) × HoldsBack asker old new (input.Asks request) × (is_full old.front.core ≡ false)
    × (first_full asker.limits.most_legs old.front.core.routing (sheets_of old.front.core asker.reading request) old.links ≡ Some number)
StopsFor asker NeedsMemory old new =
    LeavesUnread asker old new
    ⊎ ((input : Input) × HoldsBack asker old new input × HasPlaces asker old.front old.links input)

-- what the client sent is done, as far as it may be
pub record AsksOn (asker : Asker) (pause : Pause) (old new : Asking) : Type 0 where
  pub between : Asking
  pub did : DoesAll asker old between
  pub stops : StopsFor asker pause between new
