-- Which texts are the decimal digits of a port.
use Rattle.std.proofs.Common.{◌≡◌, ◌≢◌, ℕ, ◌<◌, ◌^◌, List, length, get_or, decimal, sym, ap, subst, ◌∙◌, arith, inl, inr}
use Rattle.std.specs.Str.Parse.{IsNumeral, digits_value, without_leading_plus}
use Rattle.std.proofs.lemmas.Bool.{cases_lt}
use Rattle.std.proofs.lemmas.Fmt.{decimal_is_IsNumeral, decimal_digit, decimal-digits_value, first_decimal}
use Rattle.std.proofs.lemmas.Str.Parse.{numerals_by_value, tells_digits, not_in_digits, without_leading_plus_none}

-- a number's digits have no sign
pub no_sign : (bs : List ℕ) (port : ℕ) → port < 2 ^ 16 → get_or bs 0 0 ≡ 43 → bs ≢ decimal port
no_sign bs port small plus e =
    let is = decimal_is_IsNumeral port (omega arith) in
    not_in_digits (numerals_by_value _ tells_digits) (decimal port) 43 is.0.1 (λ r. omega (arith, r)) 0 is.0.0 (ap (λ l. get_or l 0 0) (sym e) ∙ plus)

-- nor a zero before others
pub no_zero : (bs : List ℕ) (port : ℕ) → port < 2 ^ 16 → get_or bs 0 0 ≡ 48 → 1 < length bs → bs ≢ decimal port
no_zero bs port small first more e = elim (cases_lt port 10) [
  | inl one ↦ omega (arith, ap length (sym e), ap length (decimal_digit port one))
  | inr many ↦ omega (arith, first_decimal port (omega arith) (omega arith), ap (λ l. get_or l 0 0) (sym e))
]

-- the digits of a text without a leading plus are those of a number of 16 bits
abbrev pub Parses : List ℕ → Type 0
Parses bs = IsNumeral 10 (without_leading_plus bs) × (digits_value 10 (without_leading_plus bs) < 2 ^ 16)

plainly : (bs : List ℕ) → get_or bs 0 0 ≢ 43 → Parses bs → IsNumeral 10 bs × (digits_value 10 bs < 2 ^ 16)
plainly bs plus parses = subst (λ ds. IsNumeral 10 ds × (digits_value 10 ds < 2 ^ 16)) (without_leading_plus_none bs plus) parses

-- a text with neither is written as the number that is parsed of it
pub written : (bs : List ℕ) (port : ℕ) → Parses bs × (port ≡ digits_value 10 (without_leading_plus bs)) → get_or bs 0 0 ≢ 43
    → (get_or bs 0 0 ≡ 48 → length bs ≡ 1) → bs ≡ decimal port
written bs port parses plus alone =
    let is = plainly bs plus parses.0 in
    let value : port ≡ digits_value 10 bs = parses.1 ∙ ap (digits_value 10) (without_leading_plus_none bs plus) in
    sym (decimal-digits_value (numerals_by_value _ tells_digits) bs is.0.1 is.0.0 alone (omega (arith, is.1))) ∙ ap decimal (sym value)

-- a number's digits are parsed
pub not_written : (bs : List ℕ) → ¬ Parses bs → get_or bs 0 0 ≢ 43 → (port : ℕ) → port < 2 ^ 16 → bs ≢ decimal port
not_written bs none plus port small same =
    let is = decimal_is_IsNumeral port (omega arith) in
    let parses : IsNumeral 10 bs × (digits_value 10 bs < 2 ^ 16) = (subst (IsNumeral 10) (sym same) is.0, omega (arith, ap (digits_value 10) same, is.1)) in
    none (subst (λ ds. IsNumeral 10 ds × (digits_value 10 ds < 2 ^ 16)) (sym (without_leading_plus_none bs plus)) parses)
