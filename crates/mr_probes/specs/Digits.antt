-- Numbers as hexadecimal digits.
use Rattle.std.specs.Prelude.{ℕ, List, [], ◌∷◌, ◌++◌}
use Rattle.std.specs.Int.{w64, to_be_bytes}
use Rattle.hex.specs.Hex.{encode_lower}

-- a number of 64 bits as 16 digits, in lower case
unfoldable pub number_text : ℕ → List ℕ
number_text n = encode_lower (to_be_bytes w64 n)

-- with a dash behind it
abbrev pub word_text : ℕ → List ℕ
word_text n = number_text n ++ 45 ∷ []
