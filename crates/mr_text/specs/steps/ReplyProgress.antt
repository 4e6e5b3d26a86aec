-- What reading on comes to, over what a reader keeps of an unfinished reply.
use Rattle.std.specs.Prelude.{◌≡◌, ℕ, ◌+◌, ◌-◌, ◌*◌, ◌<◌, ◌≤◌, Bool, true, false, List, ◌++◌, length, Option, Some, None, Result, Ok, Err}
use Rattle.std.specs.declared.alloc.AllocError.{AllocError}
use Rattle.mr_text.specs.Limits.{MAX_ITEMS, MAX_HELD}
use Rattle.mr_text.specs.Replies.{HoldsItem, HasReadAll, HasReadToBlock, NextReplyIs, ReplyBegunAfter}
use Rattle.mr_text.specs.Stream.{ReaderView, StandsFor, HoldsFew}
use Rattle.mr_text.specs.steps.BegunItem.{SaidItem, HasRead, is_begun}
use Rattle.mr_text.specs.steps.Reading.{StretchReading}
use Rattle.mr_text.specs.steps.Reading.StretchReading.{Waits, Gives, Refused}
use Rattle.mr_text.specs.steps.ReplyReading.{items_reading, reply_reading}
use Rattle.mr_text.specs.steps.StreamView.{StreamView, reader_of, with_read}
use Rattle.mr_text.specs.declared.item.Item.{Item}
use Rattle.mr_text.specs.declared.error.TextError.{TextError}
use Rattle.mr_text.specs.declared.reply.Reply.{Reply}
use Rattle.mr_text.specs.declared.reading.unfinished_reply.UnfinishedReply.{UnfinishedReply}
use Rattle.mr_text.specs.declared.reading.unfinished_reply.FirstLine.{FirstLine}
use Rattle.mr_text.specs.declared.reading.unfinished_reply.FirstLine.TheVariants as first
use Rattle.mr_text.specs.declared.reading.unfinished_reply.ReadStep.{ReadStep}
use Rattle.mr_text.specs.declared.reading.unfinished_reply.ReadStep.TheVariants as step

-- what the reader keeps is what was read
abbrev pub IsProgress : UnfinishedReply → Type 0
IsProgress reply = HasRead reply.stream.front reply.items.items reply.said

abbrev pub has_begun : UnfinishedReply → Bool
has_begun reply = is_begun reply.items.items reply.said

-- all bytes that were fed and belong to no reply that was given
abbrev pub all_of : StreamView → List ℕ
all_of stream = stream.front ++ stream.unread

-- more of a stream was read, and it stands for the same bytes
pub record ReadsOn (old new : StreamView) : Type 0 where
  pub kept : all_of new ≡ all_of old
  pub ended : new.ended ≡ old.ended
  pub closed : new.closed ≡ old.closed
  pub further : length old.front ≤ length new.front

-- what is read may be copied: nothing is refused, and where the input ended the reply is whole
abbrev pub MayCopy : Bool → StretchReading (List Item) → Type 0
MayCopy ended Waits = ended ≡ false
MayCopy ended (Gives items size) = Unit {0}
MayCopy ended (Refused refusal size) = ⊥

-- no more is unread than a line or a block that isn't whole
abbrev pub IsShort : StreamView → Type 0
IsShort stream = length stream.unread ≤ MAX_HELD

-- what a reader of replies answers and leaves, in one
pub record IsNextReply (old new : ReaderView) (result : Result (Option Reply) TextError) : Type 0 where
  pub answer : (rest : List ℕ) → StandsFor old rest → NextReplyIs old new rest result
  pub begun : ReplyBegunAfter old new result
  pub short : result ≡ Ok None → HoldsFew new

-- what the first line comes to
abbrev pub FirstLineIs : UnfinishedReply → UnfinishedReply → Result FirstLine TextError → Type 0
FirstLineIs old new (Ok first.Waits) =
    (new ≡ old) × (reply_reading (all_of old.stream) ≡ Waits) ×
    HasReadAll (all_of old.stream) (length old.stream.front) × IsShort old.stream
FirstLineIs old new (Ok first.Item) = IsProgress new × ReadsOn old.stream new.stream × (has_begun new ≡ true)
FirstLineIs old new (Ok (first.Reply reply)) =
    IsProgress new × IsNextReply (reader_of old.stream) (reader_of new.stream) (Ok (Some reply))
FirstLineIs old new (Err refusal) =
    IsProgress new × IsNextReply (reader_of old.stream) (reader_of new.stream) (Err refusal)

-- the line of an item was read, which has so many bytes
pub record LineTaken (old new : UnfinishedReply) (said : SaidItem) (size : ℕ) : Type 0 where
  pub stream : new.stream ≡ with_read size old.stream
  pub keeps : new.said ≡ Some said
  pub items : new.items ≡ old.items

-- how many lines and blocks may still be read
abbrev pub steps_of : ℕ → Option SaidItem → ℕ
steps_of room None = 2 * room + 1
steps_of room (Some said) = 2 * room

abbrev pub steps_left : UnfinishedReply → ℕ
steps_left reply = steps_of (MAX_ITEMS - length reply.items.items) reply.said

-- what the next line or block behind items comes to
abbrev pub StepReads : UnfinishedReply → UnfinishedReply → ReadStep → Type 0
StepReads old new step.More = (steps_left new < steps_left old) × (has_begun new ≡ true)
StepReads old new (step.End size) =
    (new.said ≡ None) × (size ≤ length new.stream.unread) ×
    (items_reading MAX_ITEMS (all_of old.stream) ≡ Gives new.items.items (length new.stream.front + size))
StepReads old new step.Waits =
    (has_begun new ≡ has_begun old) × IsShort new.stream ×
    HasReadAll (all_of new.stream) (length new.stream.front) ×
    (items_reading MAX_ITEMS (all_of old.stream) ≡ Waits)

abbrev pub StepTaken : UnfinishedReply → UnfinishedReply → Result ReadStep AllocError → Type 0
StepTaken old new (Ok s) = StepReads old new s
StepTaken old new (Err e) = HoldsItem (all_of old.stream) × HasReadToBlock (all_of new.stream) (length new.stream.front)

pub record TakesStep (old new : UnfinishedReply) (result : Result ReadStep AllocError) : Type 0 where
  pub progress : IsProgress new
  pub reads_on : ReadsOn old.stream new.stream
  pub step : StepTaken old new result
