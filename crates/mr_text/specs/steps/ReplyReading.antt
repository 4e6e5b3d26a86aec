-- How a reply is read, step by step. The relations of `Replies` say what a text means; that the two agree is proved.
use Rattle.std.specs.Prelude.{ℕ, zero, suc, ◌+◌, ◌-◌, ◌^◌, nat_lt, Bool, true, false, List, [], ◌∷◌, ◌++◌, length, take, drop, codes, Option, Some, None, Result, Ok, Err, if◌then◌else◌}
use Rattle.std.specs.Str.{bytes_eq}
use Rattle.mr_lines.specs.Numbers.{number_in}
use Rattle.mr_lines.specs.Words.{words_of, drop_spaces}
use Rattle.mr_text.specs.Key.{key_test}
use Rattle.mr_text.specs.steps.Reading.{StretchReading, line_reading, block_reading}
use Rattle.mr_text.specs.steps.Reading.StretchReading.{Waits, Gives, Refused}
use Rattle.mr_text.specs.Replies.{cause_of}
use Rattle.mr_text.specs.declared.item.Item.{Item}
use Rattle.mr_text.specs.Limits.{MAX_BLOCK, MAX_ITEMS}
use Rattle.mr_text.specs.declared.error.TextError.{TextError}
use Rattle.mr_text.specs.declared.error.TextError.TheVariants.{BadKey, BadNumber, WrongWords, DataTooLong, UnknownCommand}
use Rattle.mr_text.specs.declared.reply.Reply.{Reply}
use Rattle.mr_text.specs.declared.reply.Reply.TheVariants.{Items, Stored, Deleted, NotFound, Error, ClientError, ServerError}

-- a line of a reply
pub data ReplyLine : Type 0 where
  ItemLine : (key : List ℕ) (flags block_length : ℕ) → ReplyLine
  EndLine : ReplyLine
  LoneLine : (reply : Reply) → ReplyLine

abbrev pub item_values : List ℕ → Option ℕ → Option ℕ → Result ReplyLine TextError
item_values key None block_length = Err BadNumber
item_values key (Some flags) None = Err BadNumber
item_values key (Some flags) (Some block_length) = if nat_lt MAX_BLOCK block_length then Err DataTooLong else Ok (ItemLine key flags block_length)

-- the words behind VALUE
abbrev pub item_line : List (List ℕ) → Result ReplyLine TextError
item_line (key ∷ flags ∷ bytes ∷ []) =
    if key_test key then item_values key (number_in (2 ^ 32 - 1) flags) (number_in (2 ^ 64 - 1) bytes) else Err BadKey
item_line words = Err WrongWords

-- the words behind one that stands alone
abbrev pub lone_line : ReplyLine → List (List ℕ) → Result ReplyLine TextError
lone_line line [] = Ok line
lone_line line (word ∷ words) = Err WrongWords

-- the first line, by its words; the text of an error stands behind its word and one space
unfoldable pub first_line : List ℕ → List (List ℕ) → Result ReplyLine TextError
first_line line [] = Err (UnknownCommand true)
first_line line (word ∷ words) =
    if bytes_eq word (codes "STORED") then lone_line (LoneLine Stored) words
    else if bytes_eq word (codes "DELETED") then lone_line (LoneLine Deleted) words
    else if bytes_eq word (codes "NOT_FOUND") then lone_line (LoneLine NotFound) words
    else if bytes_eq word (codes "ERROR") then lone_line (LoneLine Error) words
    else if bytes_eq word (codes "END") then lone_line EndLine words
    else if bytes_eq word (codes "VALUE") then item_line words
    else if bytes_eq word (codes "CLIENT_ERROR") then Ok (LoneLine (ClientError (cause_of (drop 1 (drop (length word) (drop_spaces line))))))
    else if bytes_eq word (codes "SERVER_ERROR") then Ok (LoneLine (ServerError (cause_of (drop 1 (drop (length word) (drop_spaces line))))))
    else Err (UnknownCommand true)

-- a line behind an item, with room for so many more
abbrev pub item_line_within : ℕ → List (List ℕ) → Result ReplyLine TextError
item_line_within zero words = Err WrongWords
item_line_within (suc room) words = item_line words

unfoldable pub next_line : ℕ → List (List ℕ) → Result ReplyLine TextError
next_line room [] = Err WrongWords
next_line room (word ∷ words) =
    if bytes_eq word (codes "END") then lone_line EndLine words
    else if bytes_eq word (codes "VALUE") then item_line_within room words
    else Err WrongWords

-- what comes next of the items of a reply: one more, or their end
pub data Step : Type 0 where
  ItemStep : (item : Item) → Step
  EndStep : Step

abbrev pub item_step : List ℕ → ℕ → List ℕ → ℕ → ℕ → Result Bool TextError → StretchReading Step
item_step bytes line_length key flags block_length (Ok true) =
    Gives (ItemStep (record { key = key; flags = flags; block = take block_length (drop line_length bytes) })) (line_length + block_length + 2)
item_step bytes line_length key flags block_length (Ok false) = Waits
item_step bytes line_length key flags block_length (Err refusal) = Refused refusal 0

abbrev pub step_of_line : List ℕ → ℕ → Result ReplyLine TextError → StretchReading Step
step_of_line bytes line_length (Ok (ItemLine key flags block_length)) =
    item_step bytes line_length key flags block_length (block_reading block_length (drop line_length bytes))
step_of_line bytes line_length (Ok EndLine) = Gives EndStep line_length
step_of_line bytes line_length (Ok (LoneLine reply)) = Refused WrongWords 0
step_of_line bytes line_length (Err refusal) = Refused refusal 0

abbrev pub step_of_reading : ℕ → List ℕ → StretchReading (List ℕ) → StretchReading Step
step_of_reading room bytes Waits = Waits
step_of_reading room bytes (Gives line line_length) = step_of_line bytes line_length (next_line room (words_of line))
step_of_reading room bytes (Refused refusal length) = Refused refusal 0

-- the next item, or the end, with room for so many more
unfoldable pub step_reading : ℕ → List ℕ → StretchReading Step
step_reading room bytes = step_of_reading room bytes (line_reading bytes)

-- items in front of those behind them, which take so many bytes
abbrev pub with_items : List Item → ℕ → StretchReading (List Item) → StretchReading (List Item)
with_items front size Waits = Waits
with_items front size (Gives items length) = Gives (front ++ items) (size + length)
with_items front size (Refused refusal length) = Refused refusal length

abbrev pub items_by : (List ℕ → StretchReading (List Item)) → List ℕ → StretchReading Step → StretchReading (List Item)
items_by behind bytes Waits = Waits
items_by behind bytes (Gives (ItemStep item) size) = with_items (item ∷ []) size (behind (drop size bytes))
items_by behind bytes (Gives EndStep size) = Gives [] size
items_by behind bytes (Refused refusal length) = Refused refusal 0

-- the items to the end, with room for so many
unfoldable pub items_reading : ℕ → List ℕ → StretchReading (List Item)
items_reading zero bytes = items_by (λ _. Waits) bytes (step_reading zero bytes)
items_reading (suc room) bytes = items_by (items_reading room) bytes (step_reading (suc room) bytes)

abbrev pub as_reply : StretchReading (List Item) → StretchReading Reply
as_reply Waits = Waits
as_reply (Gives items length) = Gives (Items items) length
as_reply (Refused refusal length) = Refused refusal length

abbrev pub reply_of_line : List ℕ → ℕ → Result ReplyLine TextError → StretchReading Reply
reply_of_line bytes line_length (Ok (ItemLine key flags block_length)) = as_reply (items_reading MAX_ITEMS bytes)
reply_of_line bytes line_length (Ok EndLine) = as_reply (items_reading MAX_ITEMS bytes)
reply_of_line bytes line_length (Ok (LoneLine reply)) = Gives reply line_length
reply_of_line bytes line_length (Err refusal) = Refused refusal 0

abbrev pub reply_of_reading : List ℕ → StretchReading (List ℕ) → StretchReading Reply
reply_of_reading bytes Waits = Waits
reply_of_reading bytes (Gives line line_length) = reply_of_line bytes line_length (first_line line (words_of line))
reply_of_reading bytes (Refused refusal length) = Refused refusal 0

-- the reply at the front of the bytes
unfoldable pub reply_reading : List ℕ → StretchReading Reply
reply_reading bytes = reply_of_reading bytes (line_reading bytes)
