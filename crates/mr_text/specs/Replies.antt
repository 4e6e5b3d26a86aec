-- The text of replies: which bytes spell which reply, and which bytes are refused and how.
use Rattle.std.specs.Prelude.{◌≡◌, ◌≢◌, ℕ, zero, suc, ◌+◌, ◌^◌, ◌<◌, ◌≤◌, ◌⊎◌, Bool, true, false, List, [], ◌∷◌, ◌++◌, length, All, Contains, codes, unwrap_or, Option, Some, None, Result, Ok, Err}
use Rattle.mr_lines.specs.Numbers.{IsNumber}
use Rattle.mr_text.specs.Block.{IsBlock}
use Rattle.mr_text.specs.CauseText.{cause_named}
use Rattle.mr_text.specs.Key.{IsKey}
use Rattle.mr_text.specs.Requests.{IsLineOfWords, BeginsWithWords, BeginsWithLongLine, EndsBadly, block_end}
use Rattle.mr_text.specs.Line.{HasLineFeed}
use Rattle.mr_text.specs.Stream.{ReaderView, BeginsWith, Becomes, IsUnfinished, NextIs}
use Rattle.mr_text.specs.Text.{IsLine}
use Rattle.mr_text.specs.declared.cause.Cause.{Cause}
use Rattle.mr_text.specs.declared.cause.Cause.TheVariants.{Other}
use Rattle.mr_text.specs.declared.item.Item.{Item}
use Rattle.mr_text.specs.Limits.{MAX_LINE, MAX_BLOCK, MAX_ITEMS}
use Rattle.mr_text.specs.declared.error.TextError.{TextError}
use Rattle.mr_text.specs.declared.error.TextError.TheVariants.{LineTooLong, BadKey, BadNumber, WrongWords, DataTooLong, BadDataEnd, UnknownCommand, Truncated, Closed, OutOfMemory}
use Rattle.mr_text.specs.declared.reply.Reply.{Reply}
use Rattle.mr_text.specs.declared.reply.Reply.TheVariants.{Items, Stored, Deleted, NotFound, Error, ClientError, ServerError}

-- the numbers of a VALUE line
pub record ItemNumbers (flags_word length_word : List ℕ) (flags block_length : ℕ) : Type 0 where
  pub flags_is : IsNumber flags_word flags
  pub flags_fits : flags < 2 ^ 32
  pub length_is : IsNumber length_word block_length
  pub length_fits : block_length < 2 ^ 64

-- the words of a VALUE line
abbrev pub item_words : List ℕ → List ℕ → List ℕ → List (List ℕ)
item_words key flags_word length_word = codes "VALUE" ∷ key ∷ flags_word ∷ length_word ∷ []

-- the bytes are the line before an item's block
pub record IsItemLine (bytes key : List ℕ) (flags block_length : ℕ) : Type 0 where
  pub flags_word : List ℕ
  pub length_word : List ℕ
  pub is_line : IsLineOfWords bytes (item_words key flags_word length_word)
  pub is_key : IsKey key
  pub numbers : ItemNumbers flags_word length_word flags block_length

-- the bytes are an item: its line, the block and the line end behind it (from: protocol.txt, "Retrieval command")
pub record SpellsItem (bytes : List ℕ) (item : Item) : Type 0 where
  pub line : List ℕ
  pub is_line : IsItemLine line item.key item.flags (length item.block)
  pub is_block : IsBlock item.block
  pub follows : bytes ≡ line ++ (item.block ++ block_end)

-- the bytes begin with these items, one behind the other, and the rest comes after them
abbrev pub BeginsWithItems : List ℕ → List Item → List ℕ → Type 0
BeginsWithItems bytes [] rest = bytes ≡ rest
BeginsWithItems bytes (item ∷ items) rest =
    (front : List ℕ) × (behind : List ℕ) × (bytes ≡ front ++ behind) × SpellsItem front item × BeginsWithItems behind items rest

-- the bytes are a line with this word, and behind it nothing or a space and the text, as it stands
pub record IsErrorLine (bytes word text : List ℕ) : Type 0 where
  pub line : List ℕ
  pub is_line : IsLine bytes line
  pub not_long : length line ≤ MAX_LINE
  pub spaces : List ℕ
  pub are_spaces : All (λ byte. byte ≡ 32) spaces
  pub tail : List ℕ
  pub splits : line ≡ spaces ++ (word ++ tail)
  pub behind : ((tail ≡ []) × (text ≡ [])) ⊎ (tail ≡ 32 ∷ text)

-- the cause that a text tells
abbrev pub cause_of : List ℕ → Cause
cause_of text = unwrap_or (cause_named text) (Other text)

-- the bytes begin with the line of an error of this word, whose text tells the cause
abbrev pub TellsCause : List ℕ → List ℕ → Cause → Type 0
TellsCause bytes word cause = (text : List ℕ) × IsErrorLine bytes word text × (cause ≡ cause_of text)

-- the bytes, all of them, are this reply
-- (from: protocol.txt, "Retrieval command", "Storage commands", "Deletion", "Error strings")
abbrev pub SpellsReply : List ℕ → Reply → Type 0
SpellsReply bytes (Items items) =
    (rest : List ℕ) × BeginsWithItems bytes items rest × IsLineOfWords rest (codes "END" ∷ []) × (length items ≤ MAX_ITEMS)
SpellsReply bytes Stored = IsLineOfWords bytes (codes "STORED" ∷ [])
SpellsReply bytes Deleted = IsLineOfWords bytes (codes "DELETED" ∷ [])
SpellsReply bytes NotFound = IsLineOfWords bytes (codes "NOT_FOUND" ∷ [])
SpellsReply bytes Error = IsLineOfWords bytes (codes "ERROR" ∷ [])
SpellsReply bytes (ClientError cause) = TellsCause bytes (codes "CLIENT_ERROR") cause
SpellsReply bytes (ServerError cause) = TellsCause bytes (codes "SERVER_ERROR") cause

-- the words that are a reply's first line by themselves
abbrev pub lone_words : List (List ℕ)
lone_words = codes "STORED" ∷ codes "DELETED" ∷ codes "NOT_FOUND" ∷ codes "ERROR" ∷ codes "END" ∷ []

-- the words that begin a reply
abbrev pub reply_words : List (List ℕ)
reply_words =
    codes "STORED" ∷ codes "DELETED" ∷ codes "NOT_FOUND" ∷ codes "ERROR" ∷ codes "END" ∷ codes "VALUE" ∷ codes "CLIENT_ERROR" ∷ codes "SERVER_ERROR" ∷ []

-- a first line without words, or whose first word begins no reply
abbrev pub IsUnknownReply : List (List ℕ) → Type 0
IsUnknownReply [] = Unit {0}
IsUnknownReply (word ∷ words) = ¬ Contains reply_words word

-- how many items may still come
abbrev pub HasRoom : ℕ → Type 0
HasRoom count = count < MAX_ITEMS

-- The words of a line are wrong behind so many items. In the first line a lone word has others behind it, or a VALUE isn't followed by
-- three words; behind an item only END alone, or a VALUE followed by three words, may come, as long as there is room.
abbrev pub AreWrongReply : ℕ → List (List ℕ) → Type 0
AreWrongReply zero [] = ⊥
AreWrongReply zero (word ∷ words) = (Contains lone_words word × (words ≢ [])) ⊎ ((word ≡ codes "VALUE") × (length words ≢ 3))
AreWrongReply (suc count) words =
    (words ≢ codes "END" ∷ []) ×
    ((key : List ℕ) (flags_word : List ℕ) (length_word : List ℕ) → HasRoom (suc count) → words ≢ item_words key flags_word length_word)

-- the bytes begin with a VALUE line of these words, for which there is room, and these come after it
pub record BeginsWithItemWords (count : ℕ) (bytes key flags_word length_word after : List ℕ) : Type 0 where
  pub line : List ℕ
  pub splits : bytes ≡ line ++ after
  pub is_line : IsLineOfWords line (item_words key flags_word length_word)
  pub room : HasRoom count

-- the same with a good key and good numbers
pub record BeginsWithItemLine (count : ℕ) (bytes : List ℕ) (block_length : ℕ) (after : List ℕ) : Type 0 where
  pub line : List ℕ
  pub key : List ℕ
  pub flags : ℕ
  pub splits : bytes ≡ line ++ after
  pub is_line : IsItemLine line key flags block_length
  pub room : HasRoom count

-- a VALUE line is there whose key is no key
pub record HasBadItemKey (count : ℕ) (bytes : List ℕ) : Type 0 where
  pub key : List ℕ
  pub flags_word : List ℕ
  pub length_word : List ℕ
  pub after : List ℕ
  pub begins : BeginsWithItemWords count bytes key flags_word length_word after
  pub bad : ¬ IsKey key

-- a VALUE line is there whose key is one, but whose two numbers are none that fit
pub record HasBadItemNumber (count : ℕ) (bytes : List ℕ) : Type 0 where
  pub key : List ℕ
  pub flags_word : List ℕ
  pub length_word : List ℕ
  pub after : List ℕ
  pub begins : BeginsWithItemWords count bytes key flags_word length_word after
  pub is_key : IsKey key
  pub bad : (flags block_length : ℕ) → ¬ ItemNumbers flags_word length_word flags block_length

-- behind so many items the bytes begin with what is refused so
abbrev pub RefusesBehind : ℕ → TextError → List ℕ → Type 0
RefusesBehind count LineTooLong bytes = BeginsWithLongLine bytes
RefusesBehind count (UnknownCommand true) bytes = (count ≡ 0) × (words : List (List ℕ)) × BeginsWithWords bytes words × IsUnknownReply words
RefusesBehind count (UnknownCommand false) bytes = ⊥
RefusesBehind count WrongWords bytes = (words : List (List ℕ)) × BeginsWithWords bytes words × AreWrongReply count words
RefusesBehind count BadKey bytes = HasBadItemKey count bytes
RefusesBehind count BadNumber bytes = HasBadItemNumber count bytes
RefusesBehind count DataTooLong bytes = (block_length : ℕ) × (after : List ℕ) × BeginsWithItemLine count bytes block_length after × (MAX_BLOCK < block_length)
RefusesBehind count BadDataEnd bytes =
    (block_length : ℕ) × (after : List ℕ) × BeginsWithItemLine count bytes block_length after × (block_length ≤ MAX_BLOCK) × EndsBadly block_length after
RefusesBehind count Truncated bytes = ⊥
RefusesBehind count Closed bytes = ⊥
RefusesBehind count OutOfMemory bytes = ⊥

-- the bytes begin with what is refused so: behind some items that are whole, and that a reply may have
abbrev pub RefusesReply : TextError → List ℕ → Type 0
RefusesReply refusal bytes = (items : List Item) × (rest : List ℕ) × BeginsWithItems bytes items rest × (length items ≤ MAX_ITEMS) × RefusesBehind (length items) refusal rest

-- no reply closes its reader, and no line is skipped
abbrev pub is_no_last : Reply → Bool
is_no_last reply = false

-- a reader of replies skips no line
abbrev pub SkipsNone : List ℕ → List ℕ → Type 0
SkipsNone bytes after = ⊥

-- the bytes begin with a reply
abbrev pub HoldsReply : List ℕ → Type 0
HoldsReply bytes = (reply : Reply) × (after : List ℕ) × BeginsWith SpellsReply bytes reply after

-- the bytes begin with an item of a reply
abbrev pub HoldsItem : List ℕ → Type 0
HoldsItem bytes = (item : Item) × (after : List ℕ) × BeginsWithItems bytes (item ∷ []) after

-- an item is whole, of a reply that isn't: nothing is refused, and more bytes may finish it
pub record HoldsPartOfReply (bytes : List ℕ) : Type 0 where
  pub item : HoldsItem bytes
  pub unfinished : IsUnfinished SpellsReply RefusesReply bytes

-- memory may be wanted: for a reply that is whole or, while the input goes on, for an item of one that isn't
abbrev pub MayWantMemory : Bool → List ℕ → Type 0
MayWantMemory ended bytes = HoldsReply bytes ⊎ ((ended ≡ false) × HoldsPartOfReply bytes)

-- What `next` answers of replies: as of all that is read, but that want of memory may come before a reply is whole,
-- since its items are copied as they come.
abbrev pub NextReplyIs : (old new : ReaderView) → List ℕ → Result (Option Reply) TextError → Type 0
NextReplyIs old new rest (Err OutOfMemory) =
    (old.closed ≡ false) × MayWantMemory old.ended rest × Becomes new rest old.ended false
NextReplyIs old new rest result = NextIs SpellsReply RefusesReply SkipsNone is_no_last old new rest result

-- the bytes are the line before some item's block
abbrev pub IsAnItemLine : List ℕ → Type 0
IsAnItemLine bytes = (key : List ℕ) × (flags : ℕ) × (block_length : ℕ) × IsItemLine bytes key flags block_length

-- so many bytes are read of a reply that isn't whole: items, and maybe the line of one more
pub record HasReadPart (bytes : List ℕ) (count : ℕ) : Type 0 where
  pub items : List Item
  pub line : List ℕ
  pub after : List ℕ
  pub begins : BeginsWithItems bytes items (line ++ after)
  pub is_line : (line ≡ []) ⊎ IsAnItemLine line
  pub counted : count + length after ≡ length bytes

-- and no line or block behind them is whole
pub record HasReadAll (bytes : List ℕ) (count : ℕ) : Type 0 where
  pub part : HasReadPart bytes count
  pub no_line : part.line ≡ [] → ¬ HasLineFeed part.after
  pub no_block : ¬ HoldsItem (part.line ++ part.after)

-- so many bytes are read of a reply, up to the block of an item that is whole
pub record HasReadToBlock (bytes : List ℕ) (count : ℕ) : Type 0 where
  pub part : HasReadPart bytes count
  pub has_line : part.line ≢ []
  pub is_whole : HoldsItem (part.line ++ part.after)

-- where memory was refused: at a block that is next, or at a reply of one line, of which nothing is read
abbrev pub LacksMemoryAt : List ℕ → ℕ → Type 0
LacksMemoryAt bytes count = HasReadToBlock bytes count ⊎ ((count ≡ 0) × ¬ HoldsItem bytes)

-- how much `next` has read of a reply that isn't whole
abbrev pub ReplyBegunAfter : (old new : ReaderView) → Result (Option Reply) TextError → Type 0
ReplyBegunAfter old new (Ok (Some reply)) = new.begun ≡ 0
ReplyBegunAfter old new (Ok None) = HasReadAll old.kept new.begun
ReplyBegunAfter old new (Err Closed) = new.begun ≡ old.begun
ReplyBegunAfter old new (Err OutOfMemory) = (old.begun ≤ new.begun) × LacksMemoryAt old.kept new.begun
ReplyBegunAfter old new (Err refusal) = (old.begun ≤ new.begun) × HasReadPart old.kept new.begun
