-- What the texts of a canary are made of.
use Rattle.std.specs.Prelude.{ℕ, ◌-◌, ◌/◌, ◌%◌, min, nat_eq, nat_lt, ◌&&◌, List, [], ◌∷◌, ◌++◌, length, take, map, if◌then◌else◌, codes, decimal}
use Rattle.mr_phases.specs.PhaseText.{phase_text}
use Rattle.mr_phases.specs.declared.phase_name.PhaseName.{PhaseName}

-- a byte that a terminal shows as one character: any other is a question mark
abbrev pub shown_byte : ℕ → ℕ
shown_byte byte = if nat_lt byte 32 then 63 else if nat_lt 126 byte then 63 else byte

-- bytes as a terminal shows them
abbrev pub printable : List ℕ → List ℕ
printable word = map shown_byte word

-- so many spaces, up to 16
abbrev pub padding : ℕ → List ℕ
padding count = take (min count 16) (codes "                ")

-- a word at the right of so many columns
unfoldable pub right : ℕ → List ℕ → List ℕ
right columns word = padding (columns - length word) ++ word

-- a word at the left of so many columns
unfoldable pub left : ℕ → List ℕ → List ℕ
left columns word = word ++ padding (columns - length word)

-- so many zeros, up to 6
abbrev pub zeros : ℕ → List ℕ
zeros count = take (min count 6) (codes "000000")

-- a number in as many digits at least
unfoldable pub digits_of : ℕ → ℕ → List ℕ
digits_of width number = zeros (width - length (decimal number)) ++ decimal number

-- microseconds as milliseconds, with three decimals
unfoldable pub millis_text : ℕ → List ℕ
millis_text micros = decimal (micros / 1000) ++ (codes "." ++ digits_of 3 (micros % 1000))

-- a comma where so many digits follow, which is a multiple of three
abbrev pub comma_before : ℕ → List ℕ
comma_before count = if nat_lt 0 count && nat_eq (count % 3) 0 then codes "," else []

-- digits with their commas
abbrev pub digits_with_commas : List ℕ → List ℕ
digits_with_commas [] = []
digits_with_commas (digit ∷ digits) = digit ∷ (comma_before (length digits) ++ digits_with_commas digits)

-- a number with commas between its thousands
abbrev pub with_commas : ℕ → List ℕ
with_commas number = digits_with_commas (decimal number)

-- one noun or the other, as there is one or not
abbrev pub noun_of : ℕ → List ℕ → List ℕ → List ℕ
noun_of number one many = if nat_eq number 1 then one else many

-- a number and its noun
unfoldable pub number_of : ℕ → List ℕ → List ℕ → List ℕ
number_of number one many = decimal number ++ (codes " " ++ noun_of number one many)

-- the same with commas
unfoldable pub great_number_of : ℕ → List ℕ → List ℕ → List ℕ
great_number_of number one many = with_commas number ++ (codes " " ++ noun_of number one many)

-- a phase and the migration that it is of
unfoldable pub place_text : PhaseName → ℕ → List ℕ
place_text phase hop = phase_text phase ++ (codes " of hop " ++ decimal hop)
