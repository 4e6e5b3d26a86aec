-- What looking over bytes of a reply finds, over the program's own types for it.
use Rattle.std.specs.Prelude.{◌≡◌, ℕ, ◌<◌, ◌≤◌, Bool, true, false, List, [], length, take, Option, Some, None, Result, Ok, Err}
use Rattle.mr_text.specs.steps.ReplyView.{HasOneLine}
use Rattle.mr_text.specs.Replies.{IsItemLine, cause_of}
use Rattle.mr_text.specs.steps.Reading.{StretchReading, line_reading}
use Rattle.mr_text.specs.steps.Reading.StretchReading.{Waits, Gives, Refused}
use Rattle.mr_text.specs.steps.ReplyReading.{step_reading, reply_reading}
use Rattle.mr_text.specs.steps.ReplyReading.Step.{ItemStep, EndStep}
use Rattle.mr_text.specs.declared.item.Item.{Item}
use Rattle.mr_text.specs.Limits.{MAX_BLOCK}
use Rattle.mr_text.specs.declared.error.TextError.{TextError}
use Rattle.mr_text.specs.declared.reading.reply_lines.SaidLine.{SaidLine}
use Rattle.mr_text.specs.declared.reading.reply_lines.SaidLine.TheVariants as said
use Rattle.mr_text.specs.declared.reading.replies.NextLine.{NextLine}
use Rattle.mr_text.specs.declared.reading.replies.NextLine.TheVariants as next
use Rattle.mr_text.specs.declared.reading.replies.StepAhead.{StepAhead}
use Rattle.mr_text.specs.declared.reading.replies.StepAhead.TheVariants as ahead
use Rattle.mr_text.specs.declared.reply.Reply.{Reply}
use Rattle.mr_text.specs.declared.reply.Reply.TheVariants as reply

-- the reply that is a line by itself
abbrev pub lone_reply : SaidLine → Option Reply
lone_reply (said.Item key flags block_length) = None
lone_reply said.End = Some (reply.Items [])
lone_reply said.Stored = Some reply.Stored
lone_reply said.Deleted = Some reply.Deleted
lone_reply said.NotFound = Some reply.NotFound
lone_reply said.Error = Some reply.Error
lone_reply (said.ClientError text) = Some (reply.ClientError (cause_of text.now))
lone_reply (said.ServerError text) = Some (reply.ServerError (cause_of text.now))

-- the bytes begin with a line of so many bytes, which says this
abbrev pub SaysFirst : List ℕ → SaidLine → ℕ → Type 0
SaysFirst bytes (said.Item key flags block_length) size =
    IsItemLine (take size bytes) key.now flags block_length × (block_length ≤ MAX_BLOCK)
SaysFirst bytes line size = (r : Reply) × (lone_reply line ≡ Some r) × (reply_reading bytes ≡ Gives r size)

-- what the first line of a reply comes to
abbrev pub IsFirstSaid : List ℕ → Result (Option (SaidLine × ℕ)) TextError → Type 0
IsFirstSaid bytes (Ok None) = line_reading bytes ≡ Waits
IsFirstSaid bytes (Ok (Some said)) = SaysFirst bytes said.0 said.1 × HasOneLine said.0 × (said.1 ≤ length bytes)
IsFirstSaid bytes (Err refusal) = reply_reading bytes ≡ Refused refusal 0

-- what the next line behind items comes to, with room for so many more
abbrev pub IsNextLine : ℕ → List ℕ → Result NextLine TextError → Type 0
IsNextLine room bytes (Ok next.Waits) = line_reading bytes ≡ Waits
IsNextLine room bytes (Ok (next.Item key flags block_length size)) =
    IsItemLine (take size bytes) key.now flags block_length × (block_length ≤ MAX_BLOCK) ×
    (0 < room) × (size ≤ length bytes)
IsNextLine room bytes (Ok (next.End size)) = (step_reading room bytes ≡ Gives EndStep size) × (size ≤ length bytes)
IsNextLine room bytes (Err refusal) = step_reading room bytes ≡ Refused refusal 0

-- what the next item, or the end of the items, comes to
abbrev pub IsStepAhead : ℕ → List ℕ → Result StepAhead TextError → Type 0
IsStepAhead room bytes (Ok ahead.Waits) = step_reading room bytes ≡ Waits
IsStepAhead room bytes (Ok (ahead.Item size)) =
    (item : Item) × (step_reading room bytes ≡ Gives (ItemStep item) size) × (size ≤ length bytes) × (0 < room)
IsStepAhead room bytes (Ok ahead.End) = (size : ℕ) × (step_reading room bytes ≡ Gives EndStep size)
IsStepAhead room bytes (Err refusal) = step_reading room bytes ≡ Refused refusal 0

-- what looking over all items comes to: whether their end is there, or a refusal
abbrev pub IsAhead : StretchReading (List Item) → Result Bool TextError → Type 0
IsAhead reading (Ok true) = (items : List Item) × (size : ℕ) × (reading ≡ Gives items size)
IsAhead reading (Ok false) = reading ≡ Waits
IsAhead reading (Err refusal) = reading ≡ Refused refusal 0
