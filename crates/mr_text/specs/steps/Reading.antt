-- How a text is read, step by step. The relations of `Requests` say what a text means; that the two agree is proved.
use Rattle.std.specs.Prelude.{ℕ, ◌+◌, ◌-◌, ◌^◌, nat_lt, nat_le, Bool, true, false, List, [], ◌∷◌, length, take, drop, ℤ, codes, Option, Some, None, Result, Ok, Err, if◌then◌else◌}
use Rattle.std.specs.List.{list_any, list_all}
use Rattle.std.specs.Str.{bytes_eq}
use Rattle.mr_lines.specs.Blocks.{block_end}
use Rattle.mr_lines.specs.Lines.{byte_place, without_carriage_return}
use Rattle.mr_lines.specs.Numbers.{number_in, signed_in}
use Rattle.mr_lines.specs.Words.{words_of}
use Rattle.mr_lines.specs.declared.blocks.BlockEnd.{BlockEnd}
use Rattle.mr_lines.specs.declared.blocks.BlockEnd.TheVariants.{Awaited, Found, Wrong}
use Rattle.mr_text.specs.Key.{key_test}
use Rattle.mr_text.specs.Commands.{Shape, block_command_words}
use Rattle.mr_text.specs.Commands.Shape.{GetShape, SetShape, DeleteShape, QuitShape}
use Rattle.mr_text.specs.Limits.{MAX_LINE, MAX_BLOCK}
use Rattle.mr_text.specs.declared.error.TextError.{TextError}
use Rattle.mr_text.specs.declared.error.TextError.TheVariants.{LineTooLong, BadKey, BadNumber, WrongWords, DataTooLong, BadDataEnd, UnknownCommand}
use Rattle.mr_text.specs.declared.request.Request.{Request}
use Rattle.mr_text.specs.declared.request.Request.TheVariants.{Get, Set, Delete, Quit}

-- what a stretch of bytes gives: it waits for more, or gives a value, or is refused. The length is what is read:
-- of a refusal, the line that reading goes on behind, and nothing where it ends.
pub data StretchReading (Value : Type 0) : Type 0 where
  Waits : StretchReading Value
  Gives : (value : Value) (length : ℕ) → StretchReading Value
  Refused : (refusal : TextError) (length : ℕ) → StretchReading Value

-- the first line, with the length of its bytes, its end included
abbrev pub line_read_to : List ℕ → ℕ → StretchReading (List ℕ)
line_read_to bytes place =
    let line = without_carriage_return (take place bytes) in
    if nat_lt MAX_LINE (length line) then Refused LineTooLong 0 else Gives line (place + 1)

abbrev pub line_reading_at : List ℕ → Option ℕ → StretchReading (List ℕ)
line_reading_at bytes None = if nat_le (MAX_LINE + 2) (length bytes) then Refused LineTooLong 0 else Waits
line_reading_at bytes (Some place) = line_read_to bytes place

unfoldable pub line_reading : List ℕ → StretchReading (List ℕ)
line_reading bytes = line_reading_at bytes (byte_place 10 bytes)

-- a line as its words say it
pub data CommandLine : Type 0 where
  GetLine : (keys : List (List ℕ)) → CommandLine
  SetLine : (key : List ℕ) (flags : ℕ) (exptime : ℤ) (block_length : ℕ) (noreply : Bool) → CommandLine
  DeleteLine : (key : List ℕ) (noreply : Bool) → CommandLine
  QuitLine : CommandLine

-- the words behind all others: nothing, or noreply
abbrev pub noreply_of : List (List ℕ) → Option Bool
noreply_of [] = Some false
noreply_of (word ∷ []) = if bytes_eq word (codes "noreply") then Some true else None
noreply_of (word ∷ other ∷ words) = None

-- the words without a first 0
abbrev pub without_zero : List (List ℕ) → List (List ℕ)
without_zero [] = []
without_zero (word ∷ words) = if bytes_eq word (codes "0") then words else word ∷ words

-- the shape of the words behind the command
abbrev pub get_shape : List (List ℕ) → Result Shape TextError
get_shape [] = Err WrongWords
get_shape (key ∷ keys) = Ok (GetShape (key ∷ keys))

abbrev pub set_shape_with : List ℕ → List ℕ → List ℕ → List ℕ → Option Bool → Result Shape TextError
set_shape_with key flags exptime bytes None = Err WrongWords
set_shape_with key flags exptime bytes (Some noreply) = Ok (SetShape key flags exptime bytes noreply)

abbrev pub set_shape : List (List ℕ) → Result Shape TextError
set_shape (key ∷ flags ∷ exptime ∷ bytes ∷ options) = set_shape_with key flags exptime bytes (noreply_of options)
set_shape words = Err WrongWords

abbrev pub delete_shape_with : List ℕ → Option Bool → Result Shape TextError
delete_shape_with key None = Err WrongWords
delete_shape_with key (Some noreply) = Ok (DeleteShape key noreply)

abbrev pub delete_shape : List (List ℕ) → Result Shape TextError
delete_shape [] = Err WrongWords
delete_shape (key ∷ options) = delete_shape_with key (noreply_of (without_zero options))

abbrev pub quit_shape : List (List ℕ) → Result Shape TextError
quit_shape [] = Ok QuitShape
quit_shape (word ∷ words) = Err WrongWords

-- the shape of the words, or how they are refused
unfoldable pub shape_of : List (List ℕ) → Result Shape TextError
shape_of [] = Err (UnknownCommand false)
shape_of (word ∷ arguments) =
    if bytes_eq word (codes "get") then get_shape arguments
    else if bytes_eq word (codes "set") then set_shape arguments
    else if bytes_eq word (codes "delete") then delete_shape arguments
    else if bytes_eq word (codes "quit") then quit_shape arguments
    else Err (UnknownCommand (list_any (bytes_eq word) block_command_words))

-- what a set's words say, once its key is good
abbrev pub set_values : List ℕ → Option ℕ → Option ℤ → Option ℕ → Bool → Result CommandLine TextError
set_values key None exptime block_length noreply = Err BadNumber
set_values key (Some flags) None block_length noreply = Err BadNumber
set_values key (Some flags) (Some exptime) None noreply = Err BadNumber
set_values key (Some flags) (Some exptime) (Some block_length) noreply =
    if nat_lt MAX_BLOCK block_length then Err DataTooLong else Ok (SetLine key flags exptime block_length noreply)

-- what words of this shape say, or how they are refused
abbrev pub line_of : Shape → Result CommandLine TextError
line_of (GetShape keys) = if list_all key_test keys then Ok (GetLine keys) else Err BadKey
line_of (SetShape key flags exptime bytes noreply) =
    if key_test key
    then set_values key (number_in (2 ^ 32 - 1) flags) (signed_in exptime) (number_in (2 ^ 64 - 1) bytes) noreply
    else Err BadKey
line_of (DeleteShape key noreply) = if key_test key then Ok (DeleteLine key noreply) else Err BadKey
line_of QuitShape = Ok QuitLine

abbrev pub line_of_shape : Result Shape TextError → Result CommandLine TextError
line_of_shape (Ok shape) = line_of shape
line_of_shape (Err refusal) = Err refusal

-- what the words of a line say, or how they are refused
abbrev pub command_line : List (List ℕ) → Result CommandLine TextError
command_line words = line_of_shape (shape_of words)

-- whether a block and its line end are there, by what stands behind the block
abbrev pub has_end : BlockEnd → Result Bool TextError
has_end Awaited = Ok false
has_end Found = Ok true
has_end Wrong = Err BadDataEnd

-- whether a block of this length and its line end stand at the front
unfoldable pub block_reading : ℕ → List ℕ → Result Bool TextError
block_reading block_length bytes = has_end (block_end block_length bytes)

-- a set, when its line was read
abbrev pub set_reading : List ℕ → List ℕ → ℕ → ℤ → ℕ → Bool → ℕ → Result Bool TextError → StretchReading Request
set_reading bytes key flags exptime block_length noreply line_length (Ok true) =
    Gives (Set key flags exptime (take block_length (drop line_length bytes)) noreply) (line_length + block_length + 2)
set_reading bytes key flags exptime block_length noreply line_length (Ok false) = Waits
set_reading bytes key flags exptime block_length noreply line_length (Err refusal) = Refused refusal 0

-- a request, when its line was read
abbrev pub request_of_line : List ℕ → ℕ → Result CommandLine TextError → StretchReading Request
request_of_line bytes line_length (Ok (GetLine keys)) = Gives (Get keys) line_length
request_of_line bytes line_length (Ok (DeleteLine key noreply)) = Gives (Delete key noreply) line_length
request_of_line bytes line_length (Ok QuitLine) = Gives Quit line_length
request_of_line bytes line_length (Ok (SetLine key flags exptime block_length noreply)) =
    set_reading bytes key flags exptime block_length noreply line_length (block_reading block_length (drop line_length bytes))
request_of_line bytes line_length (Err refusal) = Refused refusal line_length

abbrev pub request_of_reading : List ℕ → StretchReading (List ℕ) → StretchReading Request
request_of_reading bytes Waits = Waits
request_of_reading bytes (Gives line line_length) = request_of_line bytes line_length (command_line (words_of line))
request_of_reading bytes (Refused refusal length) = Refused refusal length

-- the request at the front of the bytes
unfoldable pub request_reading : List ℕ → StretchReading Request
request_reading bytes = request_of_reading bytes (line_reading bytes)
