-- What the words of a shape say, as the reading finds it.
use Rattle.std.proofs.Common.{◌≡◌, ℕ, zero, suc, ◌-◌, ◌^◌, ◌<◌, ◌≤◌, ◌==◌, ◌&&◌, Bool, true, false, List, [], ◌∷◌, length, All, get_or, Option, Some, None, Result, Ok, Err, refl, sym, ap, subst, arith, if◌then◌else◌, inl, inr, ◌⊎◌, nat_le, nat_lt, leb-true, le-leb, ltb-true, ltb-false, option_map, ℤ, pos, neg_ℤ, rules, eqb-true}
use Rattle.std.specs.List.{list_all}
use Rattle.std.specs.Char.{is_ascii_digit, IsAsciiDigit}
use Rattle.std.proofs.lemmas.List.Sums.{AllPass-from_list_all, list_all-from_AllPass}
use Rattle.mr_lines.specs.Numbers.{IsNumber, IsSigned, number_of_digits, number_in, signed_in}
use Rattle.mr_text.specs.Key.{IsKey, key_test}
use Rattle.mr_text.specs.Commands.{Shape, Numbers, IsExptime}
use Rattle.mr_text.specs.Commands.Shape.{GetShape, SetShape, DeleteShape, QuitShape}
use Rattle.mr_text.specs.steps.Reading.{CommandLine, line_of, set_values}
use Rattle.mr_text.specs.steps.Reading.CommandLine.{GetLine, SetLine, DeleteLine, QuitLine}
use Rattle.mr_text.specs.Limits.{MAX_BLOCK}
use Rattle.mr_text.specs.declared.error.TextError.{TextError}
use Rattle.mr_text.specs.declared.error.TextError.TheVariants.{BadKey, BadNumber, DataTooLong}
use Rattle.mr_text.proofs.Keys.{and_true, key_test-true, key_test-false, IsKey-test}

pub keys_true : (keys : List (List ℕ)) → list_all key_test keys ≡ true → All IsKey keys
keys_true keys e = λ k d within. key_test-true (get_or keys k d) (AllPass-from_list_all key_test keys e k d within)

pub true_keys : (keys : List (List ℕ)) → All IsKey keys → list_all key_test keys ≡ true
true_keys keys h = list_all-from_AllPass key_test keys (λ k d within. IsKey-test (get_or keys k d) (h k d within))

digit_true : (byte : ℕ) → is_ascii_digit byte ≡ true → IsAsciiDigit byte
digit_true byte e = let both = and_true (nat_le 48 byte) (nat_le byte 57) e in (leb-true _ _ both.0, leb-true _ _ both.1)

true_digit : (byte : ℕ) → IsAsciiDigit byte → is_ascii_digit byte ≡ true
true_digit byte h = let low : nat_le 48 byte ≡ true = le-leb 48 byte h.0 in let high : nat_le byte 57 ≡ true = le-leb byte 57 h.1 in rw (low, high) refl

abbrev pub NumberIs : ℕ → List ℕ → Option ℕ → Type 0
NumberIs greatest word None = (n : ℕ) → n ≤ greatest → ¬ IsNumber word n
NumberIs greatest word (Some n) = IsNumber word n × (n ≤ greatest)

-- a number that fits is read so
pub number_found : (greatest : ℕ) (word : List ℕ) (n : ℕ) → IsNumber word n → n ≤ greatest → number_in greatest word ≡ Some n
unfolding number_in
number_found greatest word n h fits =
    let value = h.value in
    let some : nat_le 1 (length word) ≡ true = le-leb 1 (length word) h.digits.not_empty in
    let each : list_all is_ascii_digit word ≡ true = list_all-from_AllPass is_ascii_digit word (λ k d within. true_digit (get_or word k d) (h.digits.digits k d within)) in
    let small : nat_le (number_of_digits word) greatest ≡ true = le-leb (number_of_digits word) greatest (omega arith) in
    rw (some, each, small) (ap Some value)

pub number_is : (greatest : ℕ) (word : List ℕ) → NumberIs greatest word (number_in greatest word)
unfolding number_in
number_is greatest word = go (nat_le 1 (length word) && list_all is_ascii_digit word && nat_le (number_of_digits word) greatest) refl
  where
    read : (n : ℕ) → n ≤ greatest → IsNumber word n → number_in greatest word ≡ Some n
    read n fits h = number_found greatest word n h fits

    go : (t : Bool) → (nat_le 1 (length word) && list_all is_ascii_digit word && nat_le (number_of_digits word) greatest) ≡ t
        → NumberIs greatest word (if t then Some (number_of_digits word) else None)
    go true e =
        let outer = and_true (nat_le 1 (length word) && list_all is_ascii_digit word) (nat_le (number_of_digits word) greatest) e in
        let inner = and_true (nat_le 1 (length word)) (list_all is_ascii_digit word) outer.0 in (
          record {
            digits = record { not_empty = leb-true _ _ inner.0; digits = λ k d within. digit_true (get_or word k d) (AllPass-from_list_all is_ascii_digit word inner.1 k d within) };
            value = refl;
          },
          leb-true _ _ outer.1,
        )
    go false e = λ n fits h. let found = read n fits h in let none : number_in greatest word ≡ None = rw e refl in cc

-- a number of a sign's range is within that of exptime, and the other way round
positive_fits : (n : ℕ) → n ≤ 2 ^ 63 - 1 → IsExptime (pos n)
positive_fits n h = (search rules, search rules)

fits_positive : (n : ℕ) → IsExptime (pos n) → n ≤ 2 ^ 63 - 1
fits_positive n h = search rules

negative_fits : (n : ℕ) → n ≤ 2 ^ 63 → IsExptime (neg_ℤ (pos n))
negative_fits zero h = (search rules, search rules)
negative_fits (suc n) h = (search rules, search rules)

fits_negative : (n : ℕ) → IsExptime (neg_ℤ (pos n)) → n ≤ 2 ^ 63
fits_negative zero h = omega arith
fits_negative (suc n) h = search rules

-- a minus sign is no digit
no_digits : (digits : List ℕ) (n : ℕ) → ¬ IsNumber (45 ∷ digits) n
no_digits digits n h = let first = h.digits.digits 0 0 (omega arith) in let low = first.0 in omega arith

not_minus : (byte : ℕ) (bytes : List ℕ) (n : ℕ) → IsNumber (byte ∷ bytes) n → (byte == 45) ≡ false
not_minus byte bytes n h = go (byte == 45) refl
  where
    go : (t : Bool) → (byte == 45) ≡ t → t ≡ false
    go true e = absurd (no_digits bytes n (subst (λ b. IsNumber (b ∷ bytes) n) (eqb-true byte 45 e) h))
    go false e = refl

-- a signed number that fits is read so
pub signed_found : (word : List ℕ) (z : ℤ) → IsSigned word z → IsExptime z → signed_in word ≡ Some z
signed_found [] z (inl h) fits = absurd (let some = h.1.digits.not_empty in omega arith)
signed_found [] z (inr h) fits = let bad = h.2 in cc
signed_found (byte ∷ bytes) z (inl (n, is, z_is)) fits =
    let minus = not_minus byte bytes n is in
    let small : n ≤ 2 ^ 63 - 1 = fits_positive n (subst IsExptime z_is fits) in
    let found = number_found (2 ^ 63 - 1) (byte ∷ bytes) n is small in
    rw (minus, found) (ap Some (sym z_is))
signed_found (byte ∷ bytes) z (inr (digits, n, word_is, is, z_is)) fits =
    let byte_is : byte ≡ 45 = cc in
    let bytes_are : bytes ≡ digits = cc in
    let small : n ≤ 2 ^ 63 = fits_negative n (subst IsExptime z_is fits) in
    let found = number_found (2 ^ 63) digits n is small in
    rw (byte_is, bytes_are, found) (ap Some (sym z_is))

abbrev pub SignedIs : List ℕ → Option ℤ → Type 0
SignedIs word None = (z : ℤ) → IsSigned word z → ¬ IsExptime z
SignedIs word (Some z) = IsSigned word z × IsExptime z

pub signed_is : (word : List ℕ) → SignedIs word (signed_in word)
signed_is [] = none
  where
    none : (z : ℤ) → IsSigned [] z → ¬ IsExptime z
    none z h fits = let found = signed_found [] z h fits in cc
signed_is (byte ∷ bytes) = go (byte == 45) refl
  where
    none : signed_in (byte ∷ bytes) ≡ None → (z : ℤ) → IsSigned (byte ∷ bytes) z → ¬ IsExptime z
    none e z h fits = let found = signed_found (byte ∷ bytes) z h fits in cc

    minus : byte ≡ 45 → (o : Option ℕ) → NumberIs (2 ^ 63) bytes o → (option_map (λ n. neg_ℤ (pos n)) o ≡ None → signed_in (byte ∷ bytes) ≡ None)
        → SignedIs (byte ∷ bytes) (option_map (λ n. neg_ℤ (pos n)) o)
    minus is None h whole = none (whole refl)
    minus is (Some n) h whole = (inr (bytes, n, ap (λ b. b ∷ bytes) is, h.0, refl), negative_fits n h.1)

    plus : (o : Option ℕ) → NumberIs (2 ^ 63 - 1) (byte ∷ bytes) o → (option_map (λ n. pos n) o ≡ None → signed_in (byte ∷ bytes) ≡ None)
        → SignedIs (byte ∷ bytes) (option_map (λ n. pos n) o)
    plus None h whole = none (whole refl)
    plus (Some n) h whole = (inl (n, h.0, refl), positive_fits n h.1)

    go : (t : Bool) → (byte == 45) ≡ t
        → SignedIs (byte ∷ bytes) (if t then option_map (λ n. neg_ℤ (pos n)) (number_in (2 ^ 63) bytes) else option_map (λ n. pos n) (number_in (2 ^ 63 - 1) (byte ∷ bytes)))
    go true e = minus (eqb-true byte 45 e) (number_in (2 ^ 63) bytes) (number_is (2 ^ 63) bytes) (λ n. rw e n)
    go false e = plus (number_in (2 ^ 63 - 1) (byte ∷ bytes)) (number_is (2 ^ 63 - 1) (byte ∷ bytes)) (λ n. rw e n)

-- the numbers of a set, once they were read
pub record ReadNumbers (flags exptime bytes : List ℕ) (noreply : Bool) (key : List ℕ) (r : Result CommandLine TextError) : Type 0 where
  pub flags_number : ℕ
  pub exptime_number : ℤ
  pub block_length : ℕ
  pub numbers : Numbers flags exptime bytes flags_number exptime_number block_length
  pub says :
      ((r ≡ Err DataTooLong) × (MAX_BLOCK < block_length)) ⊎
      ((r ≡ Ok (SetLine key flags_number exptime_number block_length noreply)) × (block_length ≤ MAX_BLOCK))

abbrev NoNumbers : List ℕ → List ℕ → List ℕ → Type 0
NoNumbers flags exptime bytes = (flags_number : ℕ) (exptime_number : ℤ) (block_length : ℕ) → ¬ Numbers flags exptime bytes flags_number exptime_number block_length

-- what words of a shape say
abbrev pub Says : Shape → Result CommandLine TextError → Type 0
Says (GetShape keys) r = ((r ≡ Ok (GetLine keys)) × All IsKey keys) ⊎ ((r ≡ Err BadKey) × ¬ All IsKey keys)
Says (SetShape key flags exptime bytes noreply) r =
    ((r ≡ Err BadKey) × ¬ IsKey key) ⊎
    (IsKey key × (r ≡ Err BadNumber) × NoNumbers flags exptime bytes) ⊎
    (IsKey key × ReadNumbers flags exptime bytes noreply key r)
Says (DeleteShape key noreply) r = ((r ≡ Ok (DeleteLine key noreply)) × IsKey key) ⊎ ((r ≡ Err BadKey) × ¬ IsKey key)
Says QuitShape r = r ≡ Ok QuitLine

set_says : (key flags exptime bytes : List ℕ) (noreply : Bool) (f : Option ℕ) (e : Option ℤ) (b : Option ℕ)
    → NumberIs (2 ^ 32 - 1) flags f → SignedIs exptime e → NumberIs (2 ^ 64 - 1) bytes b
    → ((set_values key f e b noreply ≡ Err BadNumber) × NoNumbers flags exptime bytes) ⊎ ReadNumbers flags exptime bytes noreply key (set_values key f e b noreply)
set_says key flags exptime bytes noreply None e b fs es bs = inl (refl, λ x y z n. fs x (let fits = n.flags_fits in omega arith) n.flags_is)
set_says key flags exptime bytes noreply (Some f) None b fs es bs = inl (refl, λ x y z n. es y n.exptime_is n.exptime_fits)
set_says key flags exptime bytes noreply (Some f) (Some e) None fs es bs = inl (refl, λ x y z n. bs z (let fits = n.length_fits in omega arith) n.length_is)
set_says key flags exptime bytes noreply (Some f) (Some e) (Some b) fs es bs = inr (record {
  flags_number = f;
  exptime_number = e;
  block_length = b;
  numbers = record {
    flags_is = fs.0;
    flags_fits = let fits = fs.1 in omega arith;
    exptime_is = es.0;
    exptime_fits = es.1;
    length_is = bs.0;
    length_fits = let fits = bs.1 in omega arith;
  };
  says = go (nat_lt MAX_BLOCK b) refl;
})
  where
    go : (t : Bool) → nat_lt MAX_BLOCK b ≡ t
        → (((if t then Err DataTooLong else Ok (SetLine key f e b noreply)) ≡ Err DataTooLong) × (MAX_BLOCK < b)) ⊎
        (((if t then Err DataTooLong else Ok (SetLine key f e b noreply)) ≡ Ok (SetLine key f e b noreply)) × (b ≤ MAX_BLOCK))
    go true e = inl (refl, ltb-true _ _ e)
    go false e = inr (refl, ltb-false _ _ e)

-- what is read of a shape is what it says
pub says : (shape : Shape) → Says shape (line_of shape)
says (GetShape keys) = go (list_all key_test keys) refl
  where
    go : (t : Bool) → list_all key_test keys ≡ t
        → (((if t then Ok (GetLine keys) else Err BadKey) ≡ Ok (GetLine keys)) × All IsKey keys) ⊎
        (((if t then Ok (GetLine keys) else Err BadKey) ≡ Err BadKey) × ¬ All IsKey keys)
    go true e = inl (refl, keys_true keys e)
    go false e = inr (refl, λ all. let bad = true_keys keys all in cc)
says (SetShape key flags exptime bytes noreply) = go (key_test key) refl
  where
    values : Result CommandLine TextError
    values = set_values key (number_in (2 ^ 32 - 1) flags) (signed_in exptime) (number_in (2 ^ 64 - 1) bytes) noreply

    go : (t : Bool) → key_test key ≡ t → Says (SetShape key flags exptime bytes noreply) (if t then values else Err BadKey)
    go true e =
        elim (set_says key flags exptime bytes noreply _ _ _ (number_is (2 ^ 32 - 1) flags) (signed_is exptime) (number_is (2 ^ 64 - 1) bytes)) [
          | inl h ↦ inr (inl (key_test-true key e, h.0, h.1))
          | inr h ↦ inr (inr (key_test-true key e, h))
        ]
    go false e = inl (refl, key_test-false key e)
says (DeleteShape key noreply) = go (key_test key) refl
  where
    go : (t : Bool) → key_test key ≡ t
        → (((if t then Ok (DeleteLine key noreply) else Err BadKey) ≡ Ok (DeleteLine key noreply)) × IsKey key) ⊎
        (((if t then Ok (DeleteLine key noreply) else Err BadKey) ≡ Err BadKey) × ¬ IsKey key)
    go true e = inl (refl, key_test-true key e)
    go false e = inr (refl, key_test-false key e)
says QuitShape = refl
