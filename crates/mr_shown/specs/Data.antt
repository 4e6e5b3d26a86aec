-- How data stands in texts: which code points show bytes, and which bytes code points stand for.
use Rattle.std.specs.Prelude.{ℕ, List, length, Bool, nat_lt, nat_le, if◌then◌else◌, Option, Some, None, option_and_then}
use Rattle.std.specs.List.{list_all}
use Rattle.std.specs.Result.{result_ok}
use Rattle.hex.specs.Hex.{encode_lower, decode_of}
use Rattle.mr_shown.specs.Format.{most_data}
use Rattle.mr_shown.specs.declared.format.Format.{Format}
use Rattle.mr_shown.specs.declared.format.Format.TheVariants.{One, Two}

-- The code points that show bytes: in format 1 each byte is a code point, in format 2 it is two hexadecimal digits.
abbrev pub shown_data : Format → List ℕ → List ℕ
shown_data One bytes = bytes
shown_data Two bytes = encode_lower bytes

-- this code point is a byte
abbrev pub is_byte : ℕ → Bool
is_byte point = nat_lt point 256

-- The bytes that code points stand for, however many they are. Hexadecimal digits are of either case.
abbrev pub bytes_shown : Format → List ℕ → Option (List ℕ)
bytes_shown One points = if list_all is_byte points then Some points else None
bytes_shown Two points = result_ok (decode_of points)

-- the bytes, unless they are too many
abbrev pub if_few : Format → List ℕ → Option (List ℕ)
if_few format bytes = if nat_le (length bytes) (most_data format) then Some bytes else None

-- the data that code points stand for; none where one of them shows no byte, or where the bytes are too many
abbrev pub data_of : Format → List ℕ → Option (List ℕ)
data_of format points = option_and_then (if_few format) (bytes_shown format points)
