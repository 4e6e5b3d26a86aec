-- What a client that sends requests as text is answered as text.
use Rattle.std.specs.Prelude.{ℕ, List, [], ◌∷◌, ◌++◌, Bool, true, false, Option, Some, None, if◌then◌else◌}
use Rattle.std.specs.List.{flat_map}
use Rattle.mr_text.specs.Requests.{IsLineOfWords, SpellsRequest}
use Rattle.mr_text.specs.Commands.{IsUnknown}
use Rattle.mr_text.specs.Canonical.{canonical_reply}
use Rattle.mr_text.specs.declared.cause.Cause.TheVariants as cause
use Rattle.mr_text.specs.declared.error.TextError.{TextError}
use Rattle.mr_text.specs.declared.error.TextError.TheVariants.{LineTooLong, BadKey, BadNumber, WrongWords, DataTooLong, BadDataEnd, UnknownCommand, Truncated, Closed, OutOfMemory}
use Rattle.mr_text.specs.declared.reply.Reply.{Reply}
use Rattle.mr_text.specs.declared.reply.Reply.TheVariants.{Error, ClientError}
use Rattle.mr_text.specs.declared.request.Request.{Request}
use Rattle.mr_text.specs.declared.request.Request.TheVariants.{Get, Set, Delete, Quit}

-- one thing that is read of a stream that goes on behind it: a request with what it came to, or a line with a command
-- that isn't known
pub data Exchange : Type 0 where
  Asked : (request : Request) (outcome : Reply) → Exchange
  Unknown : Exchange

-- the request asks something
abbrev pub IsServed : Request → Type 0
IsServed (Get keys) = Unit {0}
IsServed (Set key flags exptime block noreply) = Unit {0}
IsServed (Delete key noreply) = Unit {0}
IsServed Quit = ⊥

-- the client wants no answer
abbrev pub is_silent : Request → Bool
is_silent (Get keys) = false
is_silent (Set key flags exptime block noreply) = noreply
is_silent (Delete key noreply) = noreply
is_silent Quit = true

-- the answer to a refused request
abbrev pub reply_to_refusal : TextError → Option Reply
reply_to_refusal LineTooLong = Some (ClientError cause.LineTooLong)
reply_to_refusal BadKey = Some (ClientError cause.BadKey)
reply_to_refusal BadNumber = Some (ClientError cause.BadNumber)
reply_to_refusal WrongWords = Some (ClientError cause.WrongWords)
reply_to_refusal DataTooLong = Some (ClientError cause.DataTooLong)
reply_to_refusal BadDataEnd = Some (ClientError cause.BadDataEnd)
reply_to_refusal (UnknownCommand closes) = Some Error
reply_to_refusal Truncated = None
reply_to_refusal Closed = None
reply_to_refusal OutOfMemory = None

-- the text of an answer, where there is one
abbrev pub text_of_answer : Option Reply → List ℕ
text_of_answer None = []
text_of_answer (Some reply) = canonical_reply reply

-- what an exchange is answered, where it is (from: protocol.txt, "Error strings"; the rest own)
abbrev pub answer_to : Exchange → Option Reply
answer_to (Asked request outcome) = if is_silent request then None else Some outcome
answer_to Unknown = Some Error

-- what is written for an exchange
abbrev pub text_of_exchange : Exchange → List ℕ
text_of_exchange exchange = text_of_answer (answer_to exchange)

-- what is written for them all
abbrev pub output_of : List Exchange → List ℕ
output_of exchanges = flat_map text_of_exchange exchanges

-- the bytes, all of them, are what the exchange read
abbrev pub SpellsExchange : List ℕ → Exchange → Type 0
SpellsExchange bytes (Asked request outcome) = SpellsRequest bytes request × IsServed request
SpellsExchange bytes Unknown = (words : List (List ℕ)) × IsLineOfWords bytes words × IsUnknown words false

-- the bytes, all of them, are what the exchanges read, one after another
pub data ReadsExchanges : List ℕ → List Exchange → Type 0 where
  begins : ReadsExchanges [] []
  reads : {bytes : List ℕ} {exchanges : List Exchange} (spelling : List ℕ) (exchange : Exchange)
      → ReadsExchanges bytes exchanges → SpellsExchange spelling exchange → ReadsExchanges (bytes ++ spelling) (exchanges ++ exchange ∷ [])
