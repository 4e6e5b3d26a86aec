-- The text of requests: which bytes spell which request, and which bytes are refused and how.
use Rattle.std.specs.Prelude.{◌≡◌, ◌≢◌, ℕ, ◌+◌, ◌<◌, ◌≤◌, ◌⊎◌, Bool, true, false, List, [], ◌∷◌, ◌++◌, length, ℤ, Option, Some, None, Result, Ok, Err}
use Rattle.mr_lines.specs.Words.{words_of}
use Rattle.mr_text.specs.Block.{IsBlock}
use Rattle.mr_text.specs.Commands.{Shape, HasShape, IsUnknown, AreWrong, HasKeys, Numbers}
use Rattle.mr_text.specs.Commands.Shape.{GetShape, SetShape, DeleteShape, QuitShape}
use Rattle.mr_text.specs.Line.{HasLineFeed}
use Rattle.mr_text.specs.Stream.{ReaderView}
use Rattle.mr_text.specs.Text.{IsLine}
use Rattle.mr_text.specs.Limits.{MAX_LINE, MAX_BLOCK}
use Rattle.mr_text.specs.declared.error.TextError.{TextError}
use Rattle.mr_text.specs.declared.error.TextError.TheVariants.{LineTooLong, BadKey, BadNumber, WrongWords, DataTooLong, BadDataEnd, UnknownCommand, Truncated, Closed, OutOfMemory}
use Rattle.mr_text.specs.declared.request.Request.{Request}
use Rattle.mr_text.specs.declared.request.Request.TheVariants.{Get, Set, Delete, Quit}

-- the bytes are one line with its end, no longer than a line may be, and these are its words
pub record IsLineOfWords (bytes : List ℕ) (words : List (List ℕ)) : Type 0 where
  pub line : List ℕ
  pub is_line : IsLine bytes line
  pub not_long : length line ≤ MAX_LINE
  pub splits : words_of line ≡ words

-- the bytes are one line with its end, of this shape, with good keys
pub record IsLineOfShape (bytes : List ℕ) (shape : Shape) : Type 0 where
  pub words : List (List ℕ)
  pub is_line : IsLineOfWords bytes words
  pub shaped : HasShape words shape
  pub keys : HasKeys shape

-- the bytes are the line of a set, whose numbers are these
pub record IsSetLine (bytes key : List ℕ) (flags : ℕ) (exptime : ℤ) (block_length : ℕ) (noreply : Bool) : Type 0 where
  pub flags_word : List ℕ
  pub exptime_word : List ℕ
  pub length_word : List ℕ
  pub is_line : IsLineOfShape bytes (SetShape key flags_word exptime_word length_word noreply)
  pub numbers : Numbers flags_word exptime_word length_word flags exptime block_length

-- the line end that closes a block
abbrev pub block_end : List ℕ
block_end = 13 ∷ 10 ∷ []

-- the bytes are a set: its line, the block and the line end behind it
pub record SpellsSet (bytes key : List ℕ) (flags : ℕ) (exptime : ℤ) (block : List ℕ) (noreply : Bool) : Type 0 where
  pub line : List ℕ
  pub is_line : IsSetLine line key flags exptime (length block) noreply
  pub is_block : IsBlock block
  pub follows : bytes ≡ line ++ (block ++ block_end)

-- the bytes, all of them, are this request (from: protocol.txt, "Retrieval command", "Storage commands", "Deletion")
abbrev pub SpellsRequest : List ℕ → Request → Type 0
SpellsRequest bytes (Get keys) = IsLineOfShape bytes (GetShape keys)
SpellsRequest bytes (Set key flags exptime block noreply) = SpellsSet bytes key flags exptime block noreply
SpellsRequest bytes (Delete key noreply) = IsLineOfShape bytes (DeleteShape key noreply)
SpellsRequest bytes Quit = IsLineOfShape bytes QuitShape

-- the bytes begin with a line of these words
pub record BeginsWithWords (bytes : List ℕ) (words : List (List ℕ)) : Type 0 where
  pub line : List ℕ
  pub after : List ℕ
  pub splits : bytes ≡ line ++ after
  pub is_line : IsLineOfWords line words

-- the first line is too long: its end is there, or so many bytes without one that it can't be short enough
abbrev pub BeginsWithLongLine : List ℕ → Type 0
BeginsWithLongLine bytes =
    ((start : List ℕ) × (after : List ℕ) × (line : List ℕ) × (bytes ≡ start ++ after) × IsLine start line × (MAX_LINE < length line)) ⊎
    ((¬ HasLineFeed bytes) × (MAX_LINE + 2 ≤ length bytes))

-- the words have a shape, but a key isn't one
pub record HasBadKey (words : List (List ℕ)) : Type 0 where
  pub shape : Shape
  pub shaped : HasShape words shape
  pub bad : ¬ HasKeys shape

-- the words are a set's and the key is one, but a number isn't
pub record HasBadNumber (words : List (List ℕ)) : Type 0 where
  pub key : List ℕ
  pub flags : List ℕ
  pub exptime : List ℕ
  pub bytes : List ℕ
  pub noreply : Bool
  pub shaped : HasShape words (SetShape key flags exptime bytes noreply)
  pub keys : HasKeys (SetShape key flags exptime bytes noreply)
  pub bad : (flags_number : ℕ) (exptime_number : ℤ) (block_length : ℕ) → ¬ Numbers flags exptime bytes flags_number exptime_number block_length

-- the bytes begin with the line of a set with a block of this length, and these come after it
pub record BeginsWithSet (bytes : List ℕ) (block_length : ℕ) (after : List ℕ) : Type 0 where
  pub line : List ℕ
  pub key : List ℕ
  pub flags : ℕ
  pub exptime : ℤ
  pub noreply : Bool
  pub splits : bytes ≡ line ++ after
  pub is_line : IsSetLine line key flags exptime block_length noreply

-- behind the block stands a byte that isn't the line end's
pub record EndsBadly (block_length : ℕ) (bytes : List ℕ) : Type 0 where
  pub block : List ℕ
  pub whole : length block ≡ block_length
  pub wrong : ℕ
  pub after : List ℕ
  pub ends :
      ((bytes ≡ block ++ (wrong ∷ after)) × (wrong ≢ 13)) ⊎
      ((bytes ≡ block ++ (13 ∷ wrong ∷ after)) × (wrong ≢ 10))

-- a set with a block of a length that is allowed, with a wrong byte behind the block
pub record HasBadDataEnd (bytes : List ℕ) : Type 0 where
  pub block_length : ℕ
  pub after : List ℕ
  pub begins : BeginsWithSet bytes block_length after
  pub allowed : block_length ≤ MAX_BLOCK
  pub ends : EndsBadly block_length after

-- the bytes begin with what is refused so, whatever follows
abbrev pub RefusesRequest : TextError → List ℕ → Type 0
RefusesRequest LineTooLong bytes = BeginsWithLongLine bytes
RefusesRequest (UnknownCommand closes) bytes = (words : List (List ℕ)) × BeginsWithWords bytes words × IsUnknown words closes
RefusesRequest WrongWords bytes = (words : List (List ℕ)) × BeginsWithWords bytes words × AreWrong words
RefusesRequest BadKey bytes = (words : List (List ℕ)) × BeginsWithWords bytes words × HasBadKey words
RefusesRequest BadNumber bytes = (words : List (List ℕ)) × BeginsWithWords bytes words × HasBadNumber words
RefusesRequest DataTooLong bytes = (block_length : ℕ) × (after : List ℕ) × BeginsWithSet bytes block_length after × (MAX_BLOCK < block_length)
RefusesRequest BadDataEnd bytes = HasBadDataEnd bytes
RefusesRequest Truncated bytes = ⊥
RefusesRequest Closed bytes = ⊥
RefusesRequest OutOfMemory bytes = ⊥

-- the bytes begin with a line that is no request and that no block follows, and these come after it
pub record SkipsLine (bytes after : List ℕ) : Type 0 where
  pub words : List (List ℕ)
  pub line : List ℕ
  pub splits : bytes ≡ line ++ after
  pub is_line : IsLineOfWords line words
  pub unknown : IsUnknown words false

-- the request that closes the reader that gave it
abbrev pub is_quit : Request → Bool
is_quit (Get keys) = false
is_quit (Set key flags exptime block noreply) = false
is_quit (Delete key noreply) = false
is_quit Quit = true

-- of bytes that hold no whole request, so many are read: their first line with its end; nothing where no line is whole
abbrev pub HasReadLine : List ℕ → ℕ → Type 0
HasReadLine bytes count =
    ((line : List ℕ) × (text : List ℕ) × (after : List ℕ) ×
    (bytes ≡ line ++ after) × IsLine line text × (count ≡ length line)) ⊎
    ((¬ HasLineFeed bytes) × (count ≡ 0))

-- how much `next` has read of a request that isn't whole
abbrev pub BegunAfter : (old new : ReaderView) → Result (Option Request) TextError → Type 0
BegunAfter old new (Ok (Some request)) = new.begun ≡ 0
BegunAfter old new (Ok None) = HasReadLine old.kept new.begun
BegunAfter old new (Err Truncated) = HasReadLine old.kept new.begun
BegunAfter old new (Err (UnknownCommand false)) = new.begun ≡ 0
BegunAfter old new (Err refusal) = new.begun ≡ old.begun
