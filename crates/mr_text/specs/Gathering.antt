-- How a text goes out in few calls: small pieces are gathered in a buffer, which goes out when the next one doesn't fit.
use Rattle.std.specs.Prelude.{◌≡◌, ℕ, ◌+◌, ◌*◌, ◌<◌, ◌≤◌, ◌⊎◌, List, [], ◌∷◌, ◌++◌, length, Result, Ok, Err}
use Rattle.mr_text.specs.Limits.{FIXED_BUFFER}
use Rattle.mr_text.specs.Sink.{SinkView, HasWritten, HasStopped}
use Rattle.mr_text.specs.declared.error.WriteFault.{WriteFault}
use Rattle.mr_text.specs.declared.reply.Reply.{Reply}
use Rattle.mr_text.specs.declared.reply.Reply.TheVariants.{Items, Stored, Deleted, NotFound, Error, ClientError, ServerError}
use Rattle.mr_text.specs.declared.request.Request.{Request}
use Rattle.mr_text.specs.declared.request.Request.TheVariants.{Get, Set, Delete, Quit}

-- the parts of a request, and of a reply, that may be long: keys, blocks, and the text of an error
abbrev pub parts_of_request : Request → ℕ
parts_of_request (Get keys) = length keys
parts_of_request (Set key flags exptime block noreply) = 1
parts_of_request (Delete key noreply) = 1
parts_of_request Quit = 1

-- of a reply: one for each of its items, and one for any other reply
abbrev pub parts_of_reply : Reply → ℕ
parts_of_reply (Items items) = length items
parts_of_reply Stored = 1
parts_of_reply Deleted = 1
parts_of_reply NotFound = 1
parts_of_reply Error = 1
parts_of_reply (ClientError cause) = 1
parts_of_reply (ServerError cause) = 1

-- A text that fits the buffer goes out in one call. A longer one takes at most two for each of its parts, and one more.
pub record TakesFewCalls (text : List ℕ) (parts : ℕ) (old new : SinkView) : Type 0 where
  pub at_once : length text ≤ FIXED_BUFFER → new.calls ≡ old.calls + 1
  pub few : new.calls ≤ old.calls + (2 * parts + 1)

-- how many calls putting so many bytes behind so many takes, and how many stand in the buffer then
abbrev pub IsFew : ℕ → ℕ → ℕ → ℕ → ℕ → Type 0
IsFew text buffer calls buffer' calls' =
    ((0 < text → buffer + text ≤ FIXED_BUFFER) × (calls' ≡ calls) × (buffer' ≡ buffer + text)) ⊎
    ((FIXED_BUFFER < buffer + text) × (text ≤ FIXED_BUFFER → (calls' ≡ calls + 1) × (buffer' ≤ text)))

-- how many calls were made when one of them fails
abbrev pub IsFewAtFault : ℕ → ℕ → ℕ → ℕ → Type 0
IsFewAtFault text buffer calls calls' = (FIXED_BUFFER < buffer + text) × (text ≤ FIXED_BUFFER → calls' ≡ calls + 1)

-- what stood in the buffer and the text behind it went out, but for what stands in the buffer now
pub record HasGathered (text buffer : List ℕ) (old : SinkView) (buffer' : List ℕ) (new : SinkView) : Type 0 where
  pub sent : List ℕ
  pub splits : buffer ++ text ≡ sent ++ buffer'
  pub wrote : HasWritten sent old new
  pub few : IsFew (length text) (length buffer) old.calls (length buffer') new.calls

-- a text is gathered, or what goes out of it and of the buffer stops at a fault
abbrev pub Gathers : List ℕ → List ℕ → SinkView → Result (Unit {0}) WriteFault → List ℕ → SinkView → Type 0
Gathers text buffer old (Ok _) buffer' new = HasGathered text buffer old buffer' new
Gathers text buffer old (Err _) buffer' new = HasStopped (buffer ++ text) old new × IsFewAtFault (length text) (length buffer) old.calls new.calls

-- a buffer that holds more than a line end may have to go out before what comes next
abbrev pub owes : List ℕ → ℕ
owes [] = 0
owes (a ∷ []) = 0
owes (a ∷ b ∷ []) = 0
owes (a ∷ b ∷ c ∷ more) = 1

-- at most so many calls, one that is owed included
abbrev pub Costs : ℕ → List ℕ → SinkView → Result (Unit {0}) WriteFault → List ℕ → SinkView → Type 0
Costs most buffer old (Ok _) buffer' new = new.calls + owes buffer' ≤ old.calls + owes buffer + most
Costs most buffer old (Err _) buffer' new = new.calls ≤ old.calls + owes buffer + most
