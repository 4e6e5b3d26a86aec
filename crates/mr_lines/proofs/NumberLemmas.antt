-- The number of decimal digits, digit by digit.
use Rattle.std.proofs.Common.{◌≡◌, ℕ, ◌+◌, ◌-◌, ◌*◌, ◌<◌, ◌≤◌, ◌&&◌, Bool, true, false, List, [], ◌∷◌, ◌++◌, Option, Some, None, length, take, drop, get_or, refl, arith, fold, if◌then◌else◌, nat_le, le-leb, leb-true}
use Rattle.std.proofs.lemmas.Grind.{fold-append}
use Rattle.std.proofs.lemmas.List.{take-append-drop}
use Rattle.std.proofs.lemmas.List.Sums.{AllPass-from_list_all}
use Rattle.std.specs.List.{list_all}
use Rattle.std.specs.Char.{is_ascii_digit}
use Rattle.mr_lines.specs.Numbers.{number_of_digits, number_in}

-- one more digit
pub number-push : (digits : List ℕ) (digit : ℕ) → number_of_digits (digits ++ digit ∷ []) ≡ 10 * number_of_digits digits + (digit - 48)
number-push digits digit = rw (fold-append (λ number d. 10 * number + (d - 48)) 0 digits (digit ∷ [])) refl

grows : (start : ℕ) (digits : List ℕ) → start ≤ fold (λ number digit. 10 * number + (digit - 48)) start digits
grows start [] = omega arith
grows start (d ∷ ds) = let more = grows (10 * start + (d - 48)) ds in omega arith

-- digits behind others make no smaller number
pub number-append-le : (front back : List ℕ) → number_of_digits front ≤ number_of_digits (front ++ back)
number-append-le front back = rw (fold-append (λ number d. 10 * number + (d - 48)) 0 front back) (grows (number_of_digits front) back)

pub number-take-le : (word : List ℕ) (i : ℕ) → number_of_digits (take i word) ≤ number_of_digits word
number-take-le word i = let h = number-append-le (take i word) (drop i word) in rw (take-append-drop i word) at h

abbrev chosen : Bool → Bool → Bool → ℕ → Option ℕ
chosen a b c n = if a && b && c then Some n else None

none_second : (a c : Bool) (n : ℕ) → chosen a false c n ≡ None
none_second true c n = refl
none_second false c n = refl

none_third : (a b : Bool) (n : ℕ) → chosen a b false n ≡ None
none_third true true n = refl
none_third true false n = refl
none_third false b n = refl

-- an empty word is no number
pub number_in-empty : (greatest : ℕ) (word : List ℕ) → length word ≡ 0 → number_in greatest word ≡ None
unfolding number_in
number_in-empty greatest [] e = refl
number_in-empty greatest (b ∷ bs) e = absurd (omega arith)

-- a byte that is no digit makes it none
pub number_in-other : (greatest : ℕ) (word : List ℕ) (i : ℕ) → i < length word → is_ascii_digit (get_or word i 0) ≡ false → number_in greatest word ≡ None
unfolding number_in
number_in-other greatest word i within bad = go (list_all is_ascii_digit word) refl
  where
    go : (t : Bool) → list_all is_ascii_digit word ≡ t → chosen (nat_le 1 (length word)) t (nat_le (number_of_digits word) greatest) (number_of_digits word) ≡ None
    go true is = let pass = AllPass-from_list_all is_ascii_digit word is i 0 within in cc
    go false is = none_second (nat_le 1 (length word)) (nat_le (number_of_digits word) greatest) (number_of_digits word)

-- a front that is too large makes it none
pub number_in-large : (greatest : ℕ) (word : List ℕ) (i : ℕ) → greatest < number_of_digits (take i word) → number_in greatest word ≡ None
unfolding number_in
number_in-large greatest word i large = go (nat_le (number_of_digits word) greatest) refl
  where
    go : (t : Bool) → nat_le (number_of_digits word) greatest ≡ t → chosen (nat_le 1 (length word)) (list_all is_ascii_digit word) t (number_of_digits word) ≡ None
    go true is = let small : number_of_digits word ≤ greatest = leb-true _ _ is in let more = number-take-le word i in absurd (omega arith)
    go false is = none_third (nat_le 1 (length word)) (list_all is_ascii_digit word) (number_of_digits word)

-- digits alone, of a number that fits
pub number_in-digits : (greatest : ℕ) (word : List ℕ) → 0 < length word → list_all is_ascii_digit word ≡ true → number_of_digits word ≤ greatest
    → number_in greatest word ≡ Some (number_of_digits word)
unfolding number_in
number_in-digits greatest word some digits fits =
    let a : nat_le 1 (length word) ≡ true = le-leb 1 (length word) (omega arith) in
    let c : nat_le (number_of_digits word) greatest ≡ true = le-leb (number_of_digits word) greatest fits in
    rw (a, digits, c) refl
