-- What holds over the whole run of a client of a node's loop whose cache nobody else uses: what it sends comes to one session,
-- in whatever pieces it comes.
use Rattle.std.specs.Prelude.{◌≡◌, ℕ, ◌⊎◌, ◌||◌, true, false, List, [], ◌∷◌, ◌++◌, drop, take, map, flat_map, Option, Some, None, if◌then◌else◌}
use Rattle.mr_text.specs.declared.reply.Reply.{Reply}
use Rattle.mr_text.specs.declared.request.Request.{Request}
use Rattle.mr_node.specs.declared.ended.Ended.{Ended}
use Rattle.mr_node.specs.Output.{Exchange, ReadsExchanges, SpellsExchange, output_of, text_of_answer}
use Rattle.mr_node.specs.Output.Exchange.{Asked, Unknown}
use Rattle.mr_node.specs.Session.{EndsSo}
use Rattle.mr_loop.specs.declared.inbox.Inbox.{Inbox}
use Rattle.mr_loop.specs.declared.node.serving.NodePause.{NodePause}
use Rattle.mr_loop.specs.LoopView.{TakesPiece, EndsInput}
use Rattle.mr_loop.specs.node.Cache.{Does}
use Rattle.mr_loop.specs.node.NodeView.{fresh_node_client}
use Rattle.mr_loop.specs.node.Serving.{AsksInOrder, EndsThere, Seat, ServesOn, to_tell}

-- what one call serves: its reading, and the exchanges that it does
pub record Call : Type 0 where
  pub reading : ℕ
  pub exchanges : List Exchange

-- the exchanges of all calls, in order
abbrev pub exchanges_of : List Call → List Exchange
exchanges_of calls = flat_map (λ call. call.exchanges) calls

-- the steps that the cache is asked by calls, in order, each at the reading of its call
pub data AsksByCalls {C : Type 0} (does : Does C) (old : C) : List Call → C → Type 0 where
  begins : AsksByCalls does old [] old
  calls : {between new : C} {before : List Call} (call : Call)
      → AsksByCalls does old before between → AsksInOrder does call.reading between call.exchanges new
      → AsksByCalls does old (before ++ call ∷ []) new

-- the bytes of a piece that an inbox takes: none where it takes no more
abbrev pub taken_of : Inbox → List ℕ → List ℕ
taken_of inbox piece = if inbox.reader.closed || inbox.reader.ended then [] else piece

-- the same seat, whose client has this inbox
abbrev pub with_inbox : {C : Type 0} → Inbox → Seat C → Seat C
with_inbox inbox at = record at { client = record at.client { inbox = inbox } }

-- the same seat, whose client has so many bytes fewer to read
abbrev pub after_reading : {C : Type 0} → ℕ → Seat C → Seat C
after_reading count at = record at { client = record at.client { out = drop count at.client.out } }

-- What a client sent so far, what it has read, and its seat, while nobody else uses the cache: bytes come, its input ends, or it
-- reads some of what it is to be told, until nothing more is read of it.
pub data Runs {C : Type 0} (does : Does C) (most : ℕ) (start : Seat C) : List ℕ → List ℕ → Seat C → Type 0 where
  begins : Runs does most start [] [] start
  comes : {sent heard : List ℕ} {before after : Seat C} (reading : ℕ) (piece : List ℕ) (fed : Inbox) (pause : NodePause)
      → Runs does most start sent heard before → before.client.inbox.is_done ≡ false → TakesPiece piece before.client.inbox fed
      → ServesOn does reading most pause (with_inbox fed before) after
      → Runs does most start (sent ++ taken_of before.client.inbox piece) heard after
  ends : {sent heard : List ℕ} {before after : Seat C} (reading : ℕ) (ended : Inbox) (pause : NodePause)
      → Runs does most start sent heard before → before.client.inbox.is_done ≡ false → EndsInput before.client.inbox ended
      → ServesOn does reading most pause (with_inbox ended before) after → Runs does most start sent heard after
  hears : {sent heard : List ℕ} {before : Seat C} (count : ℕ) → Runs does most start sent heard before
      → Runs does most start sent (heard ++ take count before.client.out) (after_reading count before)

-- What was sent is the text of exchanges, in order, and this rest. The cache was asked their steps, in order, and what was told
-- is their output. The rest is kept, or the session has ended there with this answer.
pub record IsSession {C : Type 0} (does : Does C) (start : C) (sent told : List ℕ) (end : Seat C) : Type 0 where
  pub calls : List Call
  pub bytes : List ℕ
  pub rest : List ℕ
  pub answer : Option Reply
  pub splits : sent ≡ bytes ++ rest
  pub reads : ReadsExchanges bytes (exchanges_of calls)
  pub asks : AsksByCalls does start calls end.cache
  pub tells : told ≡ output_of (exchanges_of calls) ++ text_of_answer answer
  pub leaves :
      ((end.client.inbox.is_done ≡ false) × (end.client.inbox.reader.kept ≡ rest) × (answer ≡ None))
      ⊎ ((end.client.inbox.is_done ≡ true) × ((ended : Ended) × EndsThere end.client.inbox.has_ended rest ended answer))

-- in whatever pieces a client's bytes come, and however it reads, all comes to one session over the whole
abbrev pub PiecesComeToOneSession : {C : Type 0} → Does C → Type 0
PiecesComeToOneSession {C} does =
    (most : ℕ) (start : Seat C) (sent heard : List ℕ) (end : Seat C)
    → start.client ≡ fresh_node_client → Runs does most start sent heard end
    → IsSession does start.cache sent (heard ++ to_tell end.client) end

-- the request of an exchange; none of a line with a command that isn't known
abbrev pub asked_of : Exchange → Option Request
asked_of (Asked request told) = Some request
asked_of Unknown = None

-- the bytes are read out: the text of no exchange stands first in them
abbrev pub IsReadOut : List ℕ → Type 0
IsReadOut rest = (spelling after : List ℕ) (exchange : Exchange) → rest ≡ spelling ++ after → ¬ SpellsExchange spelling exchange

-- A session of `serve` over the same bytes asks the same, in the same order: where a client's run is over, its requests are those
-- of the exchanges that any session over all that it sent has read when it ends.
abbrev pub SessionsAskTheSame : {C : Type 0} → Does C → Type 0
SessionsAskTheSame {C} does =
    (start : C) (sent told : List ℕ) (end : Seat C) (is : IsSession does start sent told end) → end.client.inbox.is_done ≡ true
    → (exchanges : List Exchange) (bytes rest : List ℕ) (left : Option (List ℕ)) (ended : Ended) (answer : Option Reply)
    → sent ≡ bytes ++ rest → ReadsExchanges bytes exchanges → EndsSo left rest ended answer
    → map asked_of (exchanges_of is.calls) ≡ map asked_of exchanges
