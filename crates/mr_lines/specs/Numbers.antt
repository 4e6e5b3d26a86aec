-- The numbers that words are.
use Rattle.std.specs.Prelude.{◌≡◌, ℕ, ◌+◌, ◌-◌, ◌*◌, ◌^◌, ◌≤◌, ◌⊎◌, ◌==◌, ◌&&◌, nat_le, List, [], ◌∷◌, length, fold, All, ℤ, pos, neg_ℤ, Option, Some, None, option_map, if◌then◌else◌}
use Rattle.std.specs.List.{list_all}
use Rattle.std.specs.Char.{IsAsciiDigit, is_ascii_digit}

-- what decimal digits say
abbrev pub number_of_digits : List ℕ → ℕ
number_of_digits digits = fold (λ number digit. 10 * number + (digit - 48)) 0 digits

-- one byte or more, each a decimal digit
pub record IsDigits (word : List ℕ) : Type 0 where
  pub not_empty : 1 ≤ length word
  pub digits : All IsAsciiDigit word

-- the word is this number, in decimal digits, leading zeros allowed
pub record IsNumber (word : List ℕ) (number : ℕ) : Type 0 where
  pub digits : IsDigits word
  pub value : number_of_digits word ≡ number

-- the same with a sign before it, where there is one
abbrev pub IsSigned : List ℕ → ℤ → Type 0
IsSigned word number =
    ((n : ℕ) × IsNumber word n × (number ≡ pos n)) ⊎
    ((digits : List ℕ) × (n : ℕ) × (word ≡ 45 ∷ digits) × IsNumber digits n × (number ≡ neg_ℤ (pos n)))

-- the number that a word is, unless it is none or above the greatest that fits
unfoldable pub number_in : ℕ → List ℕ → Option ℕ
number_in greatest word =
    if nat_le 1 (length word) && list_all is_ascii_digit word && nat_le (number_of_digits word) greatest
    then Some (number_of_digits word) else None

-- the same with a sign
abbrev pub signed_in : List ℕ → Option ℤ
signed_in [] = None
signed_in (byte ∷ bytes) =
    if byte == 45 then option_map (λ n. neg_ℤ (pos n)) (number_in (2 ^ 63) bytes)
    else option_map (λ n. pos n) (number_in (2 ^ 63 - 1) (byte ∷ bytes))
