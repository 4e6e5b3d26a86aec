-- A line of a reply that was read, over the program's own type for it.
use Rattle.std.specs.Prelude.{◌≡◌, ℕ, ◌<◌, ◌≤◌, List, length, Result, Ok, Err}
use Rattle.mr_text.specs.Key.{IsKey}
use Rattle.mr_text.specs.Line.{HasLineFeed}
use Rattle.mr_text.specs.Replies.{cause_of}
use Rattle.mr_text.specs.steps.ReplyReading.{ReplyLine}
use Rattle.mr_text.specs.steps.ReplyReading.ReplyLine.{ItemLine, EndLine, LoneLine}
use Rattle.mr_text.specs.Limits.{MAX_BLOCK, MAX_ERROR_TEXT}
use Rattle.mr_text.specs.declared.error.TextError.{TextError}
use Rattle.mr_text.specs.declared.reading.reply_lines.SaidLine.{SaidLine}
use Rattle.mr_text.specs.declared.reading.reply_lines.SaidLine.TheVariants.{Item, End, Stored, Deleted, NotFound, Error, ClientError, ServerError}
use Rattle.mr_text.specs.declared.reply.Reply.TheVariants as reply

abbrev pub reply_line_of : SaidLine → ReplyLine
reply_line_of (Item key flags block_length) = ItemLine key.now flags block_length
reply_line_of End = EndLine
reply_line_of Stored = LoneLine reply.Stored
reply_line_of Deleted = LoneLine reply.Deleted
reply_line_of NotFound = LoneLine reply.NotFound
reply_line_of Error = LoneLine reply.Error
reply_line_of (ClientError text) = LoneLine (reply.ClientError (cause_of text.now))
reply_line_of (ServerError text) = LoneLine (reply.ServerError (cause_of text.now))

-- an item's key is one, its block may have this length, and there was room
abbrev pub IsGoodItem : ℕ → SaidLine → Type 0
IsGoodItem room (Item key flags block_length) = IsKey key.now × (block_length ≤ MAX_BLOCK) × (0 < room)
IsGoodItem room line = Unit {0}

-- the text of an error may be one
pub record IsOneLine (text : List ℕ) : Type 0 where
  pub not_long : length text ≤ MAX_ERROR_TEXT
  pub one_line : ¬ HasLineFeed text

abbrev pub HasOneLine : SaidLine → Type 0
HasOneLine (ClientError text) = IsOneLine text.now
HasOneLine (ServerError text) = IsOneLine text.now
HasOneLine line = Unit {0}

-- what the words say, or how they are refused
abbrev pub IsReplyLine : Result ReplyLine TextError → Result SaidLine TextError → Type 0
IsReplyLine said (Ok line) = said ≡ Ok (reply_line_of line)
IsReplyLine said (Err refusal) = said ≡ Err refusal
