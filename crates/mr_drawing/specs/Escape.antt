-- How bytes are shown in a picture, and how what is shown is read.
use Rattle.std.specs.Prelude.{ℕ, zero, suc, ◌+◌, ◌-◌, ◌*◌, ◌/◌, ◌%◌, ◌==◌, ◌&&◌, nat_lt, nat_le, List, [], ◌∷◌, length, drop, slice_index, flat_map, Bool, true, false, if◌then◌else◌, codes}

-- a digit of base 16, in lower case
abbrev pub hex_digit : ℕ → ℕ
hex_digit value = if nat_lt value 10 then 48 + value else 87 + value

-- a byte by its two digits, behind a backslash and an x
abbrev pub coded : ℕ → List ℕ
coded byte = 92 ∷ 120 ∷ hex_digit (byte / 16) ∷ hex_digit (byte % 16) ∷ []

-- a printable character of ASCII, or the space
abbrev pub is_printable : ℕ → Bool
is_printable byte = nat_le 32 byte && nat_le byte 126

-- a byte that means nothing to XML: a backslash twice, a printable one as it stands, another one by its digits
abbrev pub plain : ℕ → List ℕ
plain byte = if byte == 92 then 92 ∷ 92 ∷ [] else if is_printable byte then byte ∷ [] else coded byte

-- a byte as it is shown: what means something to XML is an entity (from: XML 1.0, "Predefined Entities")
abbrev pub shown_byte : ℕ → List ℕ
shown_byte byte =
    if byte == 38 then codes "&amp;"
    else if byte == 60 then codes "&lt;"
    else if byte == 62 then codes "&gt;"
    else if byte == 34 then codes "&quot;"
    else if byte == 39 then codes "&apos;"
    else plain byte

-- bytes as they are shown
abbrev pub shown : List ℕ → List ℕ
shown bytes = flat_map shown_byte bytes

-- the value of a digit of base 16, in lower case
abbrev pub digit_of : ℕ → ℕ
digit_of code = if nat_lt code 58 then code - 48 else code - 87

-- the text begins so
abbrev pub begins : List ℕ → List ℕ → Bool
begins [] text = true
begins (code ∷ front) [] = false
begins (code ∷ front) (byte ∷ text) = (byte == code) && begins front text

-- the byte that the front of a shown text stands for
abbrev pub first_byte : List ℕ → ℕ
first_byte text =
    if begins (codes "&amp;") text then 38
    else if begins (codes "&lt;") text then 60
    else if begins (codes "&gt;") text then 62
    else if begins (codes "&quot;") text then 34
    else if begins (codes "&apos;") text then 39
    else if begins (92 ∷ 92 ∷ []) text then 92
    else if begins (92 ∷ 120 ∷ []) text then 16 * digit_of (slice_index text 2) + digit_of (slice_index text 3)
    else slice_index text 0

-- how long that front is
abbrev pub first_length : List ℕ → ℕ
first_length text =
    if begins (codes "&amp;") text then 5
    else if begins (codes "&lt;") text then 4
    else if begins (codes "&gt;") text then 4
    else if begins (codes "&quot;") text then 6
    else if begins (codes "&apos;") text then 6
    else if begins (92 ∷ 92 ∷ []) text then 2
    else if begins (92 ∷ 120 ∷ []) text then 4
    else 1

-- the bytes that a shown text stands for, so many at most
abbrev pub read_some : ℕ → List ℕ → List ℕ
read_some zero text = []
read_some (suc more) text = if nat_lt 0 (length text) then first_byte text ∷ read_some more (drop (first_length text) text) else []

-- the bytes that a shown text stands for
abbrev pub read_back : List ℕ → List ℕ
read_back text = read_some (length text) text
