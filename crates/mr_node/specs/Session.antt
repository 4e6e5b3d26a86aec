-- What a session over a stream of requests reads, does and writes, whatever performs them, and how it ends.
use Rattle.std.specs.Prelude.{◌≡◌, ◌≢◌, ℕ, ◌+◌, ◌*◌, ◌<◌, ◌≤◌, ◌⊎◌, List, [], ◌∷◌, ◌++◌, length, Bool, true, false, Option, Some, None, Result, Ok, Err, if◌then◌else◌}
use Rattle.std.specs.Io.KnownBytes.{Consumes, Keeps, IsAtEnd}
use Rattle.mr_text.specs.Canonical.{canonical_reply}
use Rattle.mr_text.specs.Gathering.{TakesFewCalls, parts_of_reply}
use Rattle.mr_text.specs.Requests.{SpellsRequest, RefusesRequest}
use Rattle.mr_text.specs.Sink.{SinkView, HasWritten, HasStopped}
use Rattle.mr_text.specs.Source.{SourceView, AreOffered}
use Rattle.mr_text.specs.Stream.{ReaderView, BeginsWith, IsUnfinished, FaultAt, Becomes, skips_line}
use Rattle.mr_text.specs.TextError.{number_of_refusal}
use Rattle.mr_text.specs.declared.error.TextError.{TextError}
use Rattle.mr_text.specs.declared.error.TextError.TheVariants.{Truncated, OutOfMemory as NoMemory}
use Rattle.mr_text.specs.declared.reply.Reply.{Reply}
use Rattle.mr_text.specs.declared.request.Request.TheVariants.{Quit}
use Rattle.mr_node.specs.declared.ended.Ended.{Ended}
use Rattle.mr_node.specs.declared.ended.Ended.TheVariants as how
use Rattle.mr_node.specs.declared.session.SessionFault.{SessionFault}
use Rattle.mr_node.specs.declared.session.SessionFault.TheVariants.{OutOfMemory, ReadFault, WriteFault, TurnsSpent}
use Rattle.mr_node.specs.declared.session.SessionStep.{SessionStep}
use Rattle.mr_node.specs.declared.session.SessionStep.TheVariants.{Served, Ends}
use Rattle.mr_node.specs.Output.{Exchange, ReadsExchanges, SpellsExchange, answer_to, output_of, reply_to_refusal}
use Rattle.mr_node.specs.Output.Exchange.{Asked, Unknown}
use Rattle.mr_node.specs.Outcome.{Outcomes}

-- how many bytes there is room for in each read, which is the length of the buffer
abbrev pub read_length : ℕ
read_length = 4096

-- what a session changes by serving: the clock that it reads, what performs its requests, and what its answers are
-- written to
pub record Station (C P : Type 0) : Type 0 where
  pub clock : C
  pub node : P
  pub writer : SinkView

-- a station of these three
abbrev pub station : {C P : Type 0} → C → P → SinkView → Station C P
station clock node writer = record { clock = clock; node = node; writer = writer }

-- An answer goes out, in one call where it fits the writers' buffer. Where there is none the writer isn't touched.
abbrev pub Answers : Option Reply → SinkView → SinkView → Type 0
Answers None old new = new ≡ old
Answers (Some reply) old new = HasWritten (canonical_reply reply) old new × TakesFewCalls (canonical_reply reply) (parts_of_reply reply) old new

-- a beginning of an answer goes out, and the call that failed is the last
abbrev pub StopsAnswering : Option Reply → SinkView → SinkView → Type 0
StopsAnswering None old new = ⊥
StopsAnswering (Some reply) old new = HasStopped (canonical_reply reply) old new × TakesFewCalls (canonical_reply reply) (parts_of_reply reply) old new

-- what an exchange does, by what one request does
abbrev pub DoesExchange : {C P : Type 0} → Outcomes C P → Station C P → Exchange → Station C P → Type 0
DoesExchange Does old (Asked request outcome) new = Does old.clock old.node request outcome new.clock new.node
DoesExchange Does old Unknown new = (new.clock ≡ old.clock) × (new.node ≡ old.node)

-- exchanges, each done and answered before the next
pub data Performs {C P : Type 0} (Does : Outcomes C P) (old : Station C P) : List Exchange → Station C P → Type 0 where
  begins : Performs Does old [] old
  performs : {between new : Station C P} {exchanges : List Exchange} (exchange : Exchange)
      → Performs Does old exchanges between → DoesExchange Does between exchange new → Answers (answer_to exchange) between.writer new.writer
      → Performs Does old (exchanges ++ exchange ∷ []) new

-- one read brings these bytes, or none
pub record ReadsPiece (piece : List ℕ) (old new : SourceView) : Type 0 where
  pub takes : new.taken ≡ old.taken ++ piece
  pub once : new.reads ≡ old.reads + 1

-- All that is whole in what was read is served before the next read: a session reads only where no request is whole and
-- none is refused in what is left, and serves what stands at its front.
pub data ServesInTurn {C P : Type 0} (Does : Outcomes C P) (reader : SourceView) (old : Station C P)
    : List ℕ → SourceView → Station C P → Type 0 where
  begins : ServesInTurn Does reader old [] reader old
  reads : {rest : List ℕ} {before after : SourceView} {now : Station C P} (piece : List ℕ)
      → ServesInTurn Does reader old rest before now → IsUnfinished SpellsRequest RefusesRequest rest → ReadsPiece piece before after
      → ServesInTurn Does reader old (rest ++ piece) after now
  serves : {rest : List ℕ} {source : SourceView} {now new : Station C P} (spelling : List ℕ) (exchange : Exchange)
      → ServesInTurn Does reader old (spelling ++ rest) source now → SpellsExchange spelling exchange
      → DoesExchange Does now exchange new → Answers (answer_to exchange) now.writer new.writer
      → ServesInTurn Does reader old rest source new

-- what was taken is the text of exchanges, in order, and this rest; what was written is their output
pub record SessionServes {C P : Type 0} (Does : Outcomes C P) (reader reader' : SourceView) (old new : Station C P)
    (rest : List ℕ) : Type 0 where
  pub exchanges : List Exchange
  pub bytes : List ℕ
  pub takes : reader'.taken ≡ reader.taken ++ (bytes ++ rest)
  pub leaves : Consumes reader.left reader'.left (bytes ++ rest)
  pub reads : ReadsExchanges bytes exchanges
  pub performs : Performs Does old exchanges new
  pub writes : HasWritten (output_of exchanges) old.writer new.writer
  pub in_turn : ServesInTurn Does reader old rest reader' new

-- how what is left ends a session: a quit, the end of the input, or a refusal; and what is answered to it
abbrev pub EndsSo : Option (List ℕ) → List ℕ → Ended → Option Reply → Type 0
EndsSo left rest how.Quit answer = ((after : List ℕ) × BeginsWith SpellsRequest rest Quit after) × (answer ≡ None)
EndsSo left rest how.Ended answer = (rest ≡ []) × IsAtEnd left × (answer ≡ None)
EndsSo left rest (how.Refused number) answer =
    (refusal : TextError) × FaultAt SpellsRequest RefusesRequest refusal rest × (skips_line refusal ≡ false) × (refusal ≡ Truncated → IsAtEnd left)
    × (number ≡ number_of_refusal refusal) × (answer ≡ reply_to_refusal refusal)

-- What came next, when its answer could not be written: an exchange, and that was done; or a refusal that ends the
-- session, and nothing was done. A beginning of that answer went out.
abbrev pub LeavesUnanswered : {C P : Type 0} → Outcomes C P → List ℕ → Station C P → Station C P → Type 0
LeavesUnanswered Does rest old new =
    ((exchange : Exchange) × (spelling : List ℕ) × (after : List ℕ) × (rest ≡ spelling ++ after) × SpellsExchange spelling exchange
    × DoesExchange Does old exchange new × StopsAnswering (answer_to exchange) old.writer new.writer) ⊎
    ((refusal : TextError) × FaultAt SpellsRequest RefusesRequest refusal rest × (skips_line refusal ≡ false) × (new.clock ≡ old.clock)
    × (new.node ≡ old.node) × StopsAnswering (reply_to_refusal refusal) old.writer new.writer)

-- there was no memory for the session's buffer: nothing was read, done or written
pub record HasNoBuffer {C P : Type 0} (reader reader' : SourceView) (old new : Station C P) : Type 0 where
  pub unread : reader' ≡ reader
  pub idle : new ≡ old

-- there was no memory for bytes that came: a beginning of them was served
pub record StopsForMemory {C P : Type 0} (Does : Outcomes C P) (reader reader' : SourceView) (old new : Station C P) : Type 0 where
  pub rest : List ℕ
  pub serves : SessionServes Does reader reader' old new rest
  pub came : length reader.taken < length reader'.taken

-- What a session has read, done and written when it ends. After a fault of the reader and after the last read that was
-- allowed all that is whole was served, and after want of memory a beginning of it, or nothing was read or written. After a
-- fault of the writer a beginning was served, what came next was done once, and a beginning of its answer was written.
module _ {C P : Type 0} (Does : Outcomes C P) (reader reader' : SourceView) (old new : Station C P) where
  abbrev pub SessionIs : Result Ended SessionFault → Type 0
  SessionIs (Ok ended) =
      (rest : List ℕ) × (answer : Option Reply) × (between : Station C P) × SessionServes Does reader reader' old between rest
      × EndsSo reader'.left rest ended answer × (new.clock ≡ between.clock) × (new.node ≡ between.node) × Answers answer between.writer new.writer
  SessionIs (Err ReadFault) = (rest : List ℕ) × SessionServes Does reader reader' old new rest × IsUnfinished SpellsRequest RefusesRequest rest
  SessionIs (Err TurnsSpent) = (rest : List ℕ) × SessionServes Does reader reader' old new rest × IsUnfinished SpellsRequest RefusesRequest rest
  SessionIs (Err OutOfMemory) = HasNoBuffer reader reader' old new ⊎ StopsForMemory Does reader reader' old new
  SessionIs (Err WriteFault) =
      (rest : List ℕ) × (between : Station C P) × SessionServes Does reader reader' old between rest × LeavesUnanswered Does rest between new

-- How much a session may read: each turn is one read, and at most one brings no byte, that of the end or the one that
-- failed. Each read has room for as many bytes as the buffer holds, and none brings more.
pub record ReadsWithin (turns : ℕ) (old new : SourceView) : Type 0 where
  pub few : new.reads ≤ old.reads + turns
  pub idle : new.reads + length old.taken ≤ old.reads + length new.taken + 1
  pub bytes : length new.taken ≤ length old.taken + turns * read_length
  pub room : AreOffered read_length old.least_room → AreOffered read_length new.least_room

-- all turns were taken, and each read brought a byte
pub record SpendsTurns (turns : ℕ) (old new : SourceView) : Type 0 where
  pub all : new.reads ≡ old.reads + turns
  pub brought : length old.taken + turns ≤ length new.taken

-- one read failed
abbrev pub OneReadFailed : SourceView → SourceView → Type 0
OneReadFailed old new = new.failures ≡ old.failures + 1

-- no read failed
abbrev pub NoReadFailed : SourceView → SourceView → Type 0
NoReadFailed old new = new.failures ≡ old.failures

-- one call failed, the last
abbrev pub LastWriteFailed : SinkView → SinkView → Type 0
LastWriteFailed old new = (new.failures ≡ old.failures + 1) × (new.last_failed ≡ true)

-- no write failed
abbrev pub NoWriteFailed : SinkView → SinkView → Type 0
NoWriteFailed old new = new.failures ≡ old.failures

-- one read: some bytes come and are handed on, or it is the end of the input
abbrev pub PieceIs : ℕ → List ℕ → ReaderView → SourceView → Result Bool SessionFault → SourceView → Type 0
PieceIs room rest requests old (Ok ended) new =
    (piece : List ℕ) × (new.taken ≡ old.taken ++ piece) × Consumes old.left new.left piece × (length piece ≤ room)
    × (ended ≡ false → 1 ≤ length piece) × (ended ≡ true → IsAtEnd new.left) × Becomes requests (rest ++ piece) ended false × (new.failures ≡ old.failures)
PieceIs room rest requests old (Err fault) new =
    ((fault ≡ ReadFault) × (new.taken ≡ old.taken) × Keeps old.left new.left × (new.failures ≡ old.failures + 1)) ⊎
    ((fault ≡ OutOfMemory)
    × ((piece : List ℕ) × (new.taken ≡ old.taken ++ piece) × Consumes old.left new.left piece × (length piece ≤ room) × (1 ≤ length piece))
    × (new.failures ≡ old.failures))

-- an answer is written, or the writer fails
abbrev pub WritesAnswer : Option Reply → SinkView → Result (Unit {0}) SessionFault → SinkView → Type 0
WritesAnswer answer old (Ok _) new = Answers answer old new
WritesAnswer answer old (Err fault) new = (fault ≡ WriteFault) × StopsAnswering answer old new

-- what a refusal leads to: reading goes on behind it, or the session ends
abbrev pub step_after : TextError → SessionStep
step_after refusal = if skips_line refusal then Served else Ends (how.Refused (number_of_refusal refusal))

-- a refusal is answered; want of memory ends the session without an answer
abbrev pub AnswersRefusal : TextError → SinkView → Result SessionStep SessionFault → SinkView → Type 0
AnswersRefusal refusal old (Ok step) new = (refusal ≢ NoMemory) × (step ≡ step_after refusal) × Answers (reply_to_refusal refusal) old new
AnswersRefusal refusal old (Err fault) new =
    ((refusal ≡ NoMemory) × (fault ≡ OutOfMemory) × (new ≡ old)) ⊎ ((fault ≡ WriteFault) × StopsAnswering (reply_to_refusal refusal) old new)
