-- What is served of what a client of a node's loop sent: which steps its cache was asked, what the client is told, and why no
-- more of it is served.
use Rattle.std.specs.Prelude.{◌≡◌, ℕ, ◌<◌, ◌≤◌, ◌⊎◌, Bool, true, false, List, [], ◌∷◌, ◌++◌, length, Option, None, IsSome}
use Rattle.mr_text.specs.Requests.{SpellsRequest, RefusesRequest}
use Rattle.mr_text.specs.Stream.{BeginsWith, IsUnfinished, FaultAt, Becomes, skips_line}
use Rattle.mr_text.specs.TextError.{number_of_refusal}
use Rattle.mr_text.specs.declared.cause.Cause.TheVariants.{OutOfMemory}
use Rattle.mr_text.specs.declared.error.TextError.{TextError}
use Rattle.mr_text.specs.declared.error.TextError.TheVariants.{Truncated}
use Rattle.mr_text.specs.declared.reply.Reply.{Reply}
use Rattle.mr_text.specs.declared.reply.Reply.TheVariants.{Items, Stored, Deleted, NotFound, Error, ClientError, ServerError}
use Rattle.mr_text.specs.declared.request.Request.{Request}
use Rattle.mr_text.specs.declared.request.Request.TheVariants.{Quit}
use Rattle.mr_node.specs.declared.ended.Ended.{Ended}
use Rattle.mr_node.specs.declared.ended.Ended.TheVariants as how
use Rattle.mr_node.specs.Output.{Exchange, ReadsExchanges, output_of, reply_to_refusal, text_of_answer}
use Rattle.mr_node.specs.Output.Exchange.{Asked, Unknown}
use Rattle.mr_loop.specs.declared.inbox.Inbox.{Inbox}
use Rattle.mr_loop.specs.declared.node.client.NodeClient.{NodeClient}
use Rattle.mr_loop.specs.declared.node.counts.ServedCounts.{ServedCounts}
use Rattle.mr_loop.specs.declared.node.serving.NodePause.{NodePause}
use Rattle.mr_loop.specs.declared.node.serving.NodePause.TheVariants.{NeedsBytes, NeedsReader, NeedsMemory, IsDone}
use Rattle.mr_loop.specs.node.Cache.{Does}
use Rattle.mr_loop.specs.node.Counts.{all_counted}

-- the client of a request is told its outcome, or, where that is items for whose text there was no memory, this
abbrev pub IsTold : Reply → Reply → Type 0
IsTold (Items items) told = (told ≡ Items items) ⊎ (told ≡ ServerError OutOfMemory)
IsTold Stored told = told ≡ Stored
IsTold Deleted told = told ≡ Deleted
IsTold NotFound told = told ≡ NotFound
IsTold Error told = told ≡ Error
IsTold (ClientError cause) told = told ≡ ClientError cause
IsTold (ServerError cause) told = told ≡ ServerError cause

-- what an exchange asks of the cache: a request is one step at this reading, and its client is told what it came to; a line
-- with a command that isn't known asks nothing
abbrev pub AsksOnce : {C : Type 0} → Does C → ℕ → C → Exchange → C → Type 0
AsksOnce does reading old (Asked request told) new = (outcome : Reply) × does old reading request outcome new × IsTold outcome told
AsksOnce does reading old Unknown new = new ≡ old

-- the steps that the cache is asked by exchanges, in their order, each at this reading
pub data AsksInOrder {C : Type 0} (does : Does C) (reading : ℕ) (old : C) : List Exchange → C → Type 0 where
  begins : AsksInOrder does reading old [] old
  asks : {between new : C} {exchanges : List Exchange} (exchange : Exchange)
      → AsksInOrder does reading old exchanges between → AsksOnce does reading between exchange new
      → AsksInOrder does reading old (exchanges ++ exchange ∷ []) new

-- the bytes that a client is to be told: those that wait, and the text of what is due behind them
abbrev pub to_tell : NodeClient → List ℕ
to_tell client = client.out ++ text_of_answer client.due

-- each exchange is begun while the client, which had these bytes unread before them, has no more unread than the bound
pub data AreBegunWithin (most : ℕ) (before : List ℕ) : List Exchange → Type 0 where
  begins : AreBegunWithin most before []
  begins_next : {exchanges : List Exchange} (exchange : Exchange)
      → AreBegunWithin most before exchanges → length (before ++ output_of exchanges) ≤ most
      → AreBegunWithin most before (exchanges ++ exchange ∷ [])

-- how what a client sent ends: by a quit, by the end of its input, or by a refusal; and what it is answered then
abbrev pub EndsThere : Bool → List ℕ → Ended → Option Reply → Type 0
EndsThere ended rest how.Quit answer = ((after : List ℕ) × BeginsWith SpellsRequest rest Quit after) × (answer ≡ None)
EndsThere ended rest how.Ended answer = (rest ≡ []) × (ended ≡ true) × (answer ≡ None)
EndsThere ended rest (how.Refused number) answer =
    (refusal : TextError) × FaultAt SpellsRequest RefusesRequest refusal rest × (skips_line refusal ≡ false) × (refusal ≡ Truncated → ended ≡ true)
    × (number ≡ number_of_refusal refusal) × (answer ≡ reply_to_refusal refusal)

-- what is left of what a client sent: it is kept, or the client has ended there, and is answered this
abbrev pub LeavesSo : Inbox → Inbox → List ℕ → Option Reply → Type 0
LeavesSo old new rest answer =
    ((new.is_done ≡ false) × Becomes new.reader rest old.reader.ended false × (answer ≡ None))
    ⊎ ((new.is_done ≡ true) × ((ended : Ended) × EndsThere old.has_ended rest ended answer))

-- what serving a client changes: the cache, the client, and what is counted
pub record Seat (C : Type 0) : Type 0 where
  pub cache : C
  pub client : NodeClient
  pub counts : ServedCounts

-- a seat of these three
abbrev pub seat : {C : Type 0} → C → NodeClient → ServedCounts → Seat C
seat cache client counts = record { cache = cache; client = client; counts = counts }

-- What a client sent begins with the text of exchanges. The cache was asked their steps in order, each at this reading, and
-- their output stands behind what the client was to be told.
pub record ServesSome {C : Type 0} (does : Does C) (reading most : ℕ) (old new : Seat C) : Type 0 where
  pub exchanges : List Exchange
  pub bytes : List ℕ
  pub rest : List ℕ
  pub answer : Option Reply
  pub is_open : old.client.inbox.is_done ≡ false
  pub splits : old.client.inbox.reader.kept ≡ bytes ++ rest
  pub reads : ReadsExchanges bytes exchanges
  pub asks : AsksInOrder does reading old.cache exchanges new.cache
  pub within : AreBegunWithin most (to_tell old.client) exchanges
  pub tells : to_tell new.client ≡ to_tell old.client ++ (output_of exchanges ++ text_of_answer answer)
  pub counted : new.counts ≡ all_counted exchanges old.counts
  pub leaves : LeavesSo old.client.inbox new.client.inbox rest answer
  pub same_end : new.client.inbox.has_ended ≡ old.client.inbox.has_ended

-- nothing more is read of the client, and nothing is done
pub record IsOver {C : Type 0} (old new : Seat C) : Type 0 where
  pub over : old.client.inbox.is_done ≡ true
  pub same_cache : new.cache ≡ old.cache
  pub same_inbox : new.client.inbox ≡ old.client.inbox
  pub same_told : to_tell new.client ≡ to_tell old.client
  pub same_counts : new.counts ≡ old.counts

-- nothing is due to the client, and it has no more unread than the bound
abbrev pub IsReady : ℕ → NodeClient → Type 0
IsReady most client = (client.due ≡ None) × (length client.out ≤ most)

-- the bytes begin with a request
abbrev pub HoldsRequest : List ℕ → Type 0
HoldsRequest bytes = (request : Request) × (after : List ℕ) × BeginsWith SpellsRequest bytes request after

-- why no more is served: nothing is whole; the client has more than the bound unread; there was no memory for the text of an
-- answer, or for a request that is whole; or nothing more is read
abbrev pub StopsFor : ℕ → NodePause → NodeClient → Type 0
StopsFor most NeedsBytes client =
    IsReady most client × (client.inbox.is_done ≡ false) × (client.inbox.has_ended ≡ false)
    × IsUnfinished SpellsRequest RefusesRequest client.inbox.reader.kept
StopsFor most NeedsReader client = (client.due ≡ None) × (most < length client.out)
StopsFor most NeedsMemory client =
    IsSome client.due ⊎ (IsReady most client × (client.inbox.is_done ≡ false) × HoldsRequest client.inbox.reader.kept)
StopsFor most IsDone client = IsReady most client × (client.inbox.is_done ≡ true)

-- what a client sent is served, as far as it may be
pub record ServesOn {C : Type 0} (does : Does C) (reading most : ℕ) (pause : NodePause) (old new : Seat C) : Type 0 where
  pub serves : ServesSome does reading most old new ⊎ IsOver old new
  pub stops : StopsFor most pause new.client

-- nothing that was read is held back, and the reader knows whether the input ended, and reads on unless nothing more is read
pub record IsSound (inbox : Inbox) : Type 0 where
  pub none_held : inbox.held ≡ None
  pub is_open : inbox.is_done ≡ false → inbox.reader.closed ≡ false
  pub one_end : inbox.reader.ended ≡ inbox.has_ended

-- so it is with each client
abbrev pub AllSound : List NodeClient → Type 0
AllSound [] = Unit {0}
AllSound (client ∷ clients) = IsSound client.inbox × AllSound clients
