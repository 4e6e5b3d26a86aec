-- The numbers of a line that writers give.
use Rattle.std.proofs.Common.{◌≡◌, ℕ, ◌+◌, ◌/◌, ◌%◌, ◌^◌, ◌<◌, ◌≤◌, ◌&&◌, Bool, true, List, [], ◌∷◌, ◌++◌, length, All, refl, arith, inl, inr, ℤ, pos, negsuc, decimal, nat_le, nat_lt, leb-true, ltb-true, rules, length-append, zero, suc}
use Rattle.std.specs.Fmt.{signed_decimal}
use Rattle.std.specs.Char.{IsAsciiDigit}
use Rattle.std.specs.List.{list_all}
use Rattle.std.proofs.lemmas.Fmt.{decimal_by_steps, length-decimal-le}
use Rattle.std.proofs.lemmas.List.Elements.{All-append}
use Rattle.std.proofs.lemmas.List.Sums.{AllPass-from_list_all}
use Rattle.mr_lines.specs.Numbers.{IsNumber, IsSigned}
use Rattle.mr_text.specs.Commands.{IsExptime}
use Rattle.mr_text.specs.Key.{IsKey}
use Rattle.mr_text.proofs.CanonicalWords.{IsWord}
use Rattle.mr_text.proofs.Keys.{and_true}
use Rattle.mr_lines.proofs.NumberLemmas.{number-push}

-- a text that a test finds to be a word
abbrev word_test : List ℕ → Bool
word_test word = nat_le 1 (length word) && list_all (nat_lt 32) word

pub tested_word : (word : List ℕ) → word_test word ≡ true → IsWord word
tested_word word e =
    let both = and_true (nat_le 1 (length word)) (list_all (nat_lt 32) word) e in
    record { not_empty = let some = leb-true _ _ both.0 in omega arith; visible = λ k d within. ltb-true _ _ (AllPass-from_list_all (nat_lt 32) word both.1 k d within) }

pub key_word : (key : List ℕ) → IsKey key → IsWord key
key_word key h = record { not_empty = let some = h.not_empty in omega arith; visible = λ k d within. (h.printable k d within).0 }

single : (digit : ℕ) → 48 ≤ digit → digit ≤ 57 → All IsAsciiDigit (digit ∷ [])
single digit low high zero d within = (low, high)
single digit low high (suc k) d within = absurd (omega arith)

one_digit : (n : ℕ) → n < 10 → IsNumber ((48 + n) ∷ []) n
one_digit n small = record {
  digits = record { not_empty = omega arith; digits = single (48 + n) (omega arith) (omega arith) };
  value = omega arith;
}

one_more : (n : ℕ) (digits : List ℕ) → 10 ≤ n → IsNumber digits (n / 10) → IsNumber (digits ++ ((48 + n % 10) ∷ [])) n
one_more n digits large h = record {
  digits = record {
    not_empty = let size = length-append digits ((48 + n % 10) ∷ []) in omega arith;
    digits = All-append IsAsciiDigit digits ((48 + n % 10) ∷ []) h.digits.digits (single (48 + n % 10) (omega arith) (omega arith));
  };
  value = let pushed = number-push digits (48 + n % 10) in let front = h.value in omega arith;
}

-- decimal digits are the number that they were made of
pub decimal_number : (n : ℕ) → n < 2 ^ 64 → IsNumber (decimal n) n
decimal_number = decimal_by_steps (λ m digits. IsNumber digits m) one_digit one_more

number_word : (word : List ℕ) (n : ℕ) → IsNumber word n → IsWord word
number_word word n h = record {
  not_empty = let some = h.digits.not_empty in omega arith;
  visible = λ k d within. let low = (h.digits.digits k d within).0 in omega arith;
}

pub decimal_word : (n : ℕ) → n < 2 ^ 64 → IsWord (decimal n)
decimal_word n small = number_word (decimal n) n (decimal_number n small)

pub decimal_length : (n : ℕ) → n < 2 ^ 64 → length (decimal n) ≤ 20
decimal_length n small = length-decimal-le 20 n (omega arith) (omega arith) small

positive_small : (n : ℕ) → IsExptime (pos n) → n < 2 ^ 63
positive_small n h = search rules

negative_small : (n : ℕ) → IsExptime (negsuc n) → suc n ≤ 2 ^ 63
negative_small n h = search rules

-- the same of the moment at which an item expires
pub signed_number : (z : ℤ) → IsExptime z → IsSigned (signed_decimal z) z
signed_number (pos n) h = inl (n, decimal_number n (let small = positive_small n h in omega arith), refl)
signed_number (negsuc n) h = inr (decimal (suc n), suc n, refl, decimal_number (suc n) (let small = negative_small n h in omega arith), refl)

minus_word : (word : List ℕ) → IsWord word → IsWord (45 ∷ word)
minus_word word h = record { not_empty = omega arith; visible = visible }
  where
    visible : All (λ byte. 32 < byte) (45 ∷ word)
    visible zero d within = omega arith
    visible (suc k) d within = h.visible k d (omega arith)

pub signed_word : (z : ℤ) → IsExptime z → IsWord (signed_decimal z)
signed_word (pos n) h = decimal_word n (let small = positive_small n h in omega arith)
signed_word (negsuc n) h = minus_word (decimal (suc n)) (decimal_word (suc n) (let small = negative_small n h in omega arith))

pub signed_length : (z : ℤ) → IsExptime z → length (signed_decimal z) ≤ 21
signed_length (pos n) h = let short = decimal_length n (let small = positive_small n h in omega arith) in omega arith
signed_length (negsuc n) h = let short = decimal_length (suc n) (let small = negative_small n h in omega arith) in omega arith
