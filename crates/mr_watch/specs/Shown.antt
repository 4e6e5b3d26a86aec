-- What lines for people are made of.
use Rattle.std.specs.Prelude.{ℕ, ◌+◌, ◌-◌, ◌^◌, ◌/◌, min, nat_lt, Bool, true, false, List, [], ◌∷◌, ◌++◌, length, take, map, Option, Some, None, if◌then◌else◌, codes, decimal}
use Rattle.mr_watch.specs.declared.shown.Colour.{Colour}
use Rattle.mr_watch.specs.declared.shown.Colour.TheVariants.{Green, Red, Yellow, Cyan}

-- a byte that a terminal shows as one character: any other is a question mark
abbrev pub shown_byte : ℕ → ℕ
shown_byte byte = if nat_lt byte 32 then 63 else if nat_lt 126 byte then 63 else byte

-- bytes that came from outside
abbrev pub printable : List ℕ → List ℕ
printable word = map shown_byte word

-- the most spaces at once
abbrev pub most_spaces : ℕ
most_spaces = 32

-- so many spaces
abbrev pub spaces : List ℕ
spaces = codes "                                "

-- so many spaces, up to 32
abbrev pub padding : ℕ → List ℕ
padding count = take (min count most_spaces) spaces

-- as much of a word as fits into so many columns
abbrev pub cut : ℕ → List ℕ → List ℕ
cut columns word = printable (take columns word)

-- the same, with spaces behind it
abbrev pub left : ℕ → List ℕ → List ℕ
left columns word = cut columns word ++ padding (columns - length word)

-- the digits of a number in short: six at most, the rest left out
abbrev pub scaled : ℕ → ℕ
scaled number =
    if nat_lt number (10 ^ 6) then number else
    if nat_lt number (10 ^ 9) then number / 10 ^ 3 else
    if nat_lt number (10 ^ 12) then number / 10 ^ 6 else
    if nat_lt number (10 ^ 15) then number / 10 ^ 9 else
    if nat_lt number (10 ^ 18) then number / 10 ^ 12 else
    number / 10 ^ 15

-- the letter behind them: thousands, millions and so on
abbrev pub unit_of : ℕ → List ℕ
unit_of number =
    if nat_lt number (10 ^ 6) then [] else
    if nat_lt number (10 ^ 9) then codes "k" else
    if nat_lt number (10 ^ 12) then codes "M" else
    if nat_lt number (10 ^ 15) then codes "G" else
    if nat_lt number (10 ^ 18) then codes "T" else
    codes "P"

-- a number in at most six digits and a letter
abbrev pub short : ℕ → List ℕ
short number = decimal (scaled number) ++ unit_of number

-- a number at the right of a column of eight, behind a sign
abbrev pub signed_cell : List ℕ → ℕ → List ℕ
signed_cell sign number =
    padding (8 - (length sign + length (decimal (scaled number)) + length (unit_of number)))
    ++ (sign ++ (decimal (scaled number) ++ unit_of number))

-- a number in a column of eight
abbrev pub cell : ℕ → List ℕ
cell number = signed_cell [] number

-- the same where there may be none
abbrev pub perhaps_cell : Option ℕ → List ℕ
perhaps_cell None = codes "       -"
perhaps_cell (Some number) = cell number

-- how a colour begins
abbrev pub colour_text : Colour → List ℕ
colour_text Green = 27 ∷ codes "[32m"
colour_text Red = 27 ∷ codes "[31m"
colour_text Yellow = 27 ∷ codes "[33m"
colour_text Cyan = 27 ∷ codes "[36m"

-- and how it ends
abbrev pub plain_text : List ℕ
plain_text = 27 ∷ codes "[0m"

-- a word in a colour, where there are colours
abbrev pub coloured : Bool → Colour → List ℕ → List ℕ
coloured true colour word = colour_text colour ++ (word ++ plain_text)
coloured false colour word = word
