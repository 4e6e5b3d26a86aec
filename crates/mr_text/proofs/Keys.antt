-- The test of a key says whether the bytes are one.
use Rattle.std.proofs.Common.{◌≡◌, ℕ, ◌==◌, ◌&&◌, Bool, true, false, not, nat_lt, nat_le, List, length, get_or, refl, leb-true, le-leb, ltb-true, lt-ltb, eqb-true, eq-eqb}
use Rattle.std.specs.List.{list_all}
use Rattle.std.proofs.lemmas.List.Sums.{AllPass-from_list_all, list_all-from_AllPass}
use Rattle.mr_text.specs.Key.{IsKey, IsKeyByte, key_test, key_byte_test}
use Rattle.mr_text.specs.Limits.{MAX_KEY}

pub and_true : (a b : Bool) → (a && b) ≡ true → (a ≡ true) × (b ≡ true)
and_true true true e = (refl, refl)
and_true true false e = cc
and_true false b e = cc

not_true : (a : Bool) → not a ≡ true → a ≡ false
not_true true e = cc
not_true false e = refl

byte_true : (byte : ℕ) → key_byte_test byte ≡ true → IsKeyByte byte
byte_true byte e =
    let both = and_true (nat_lt 32 byte) (not (byte == 127)) e in
    (ltb-true _ _ both.0, λ is. let same : (byte == 127) ≡ true = eq-eqb byte 127 is in let other = not_true (byte == 127) both.1 in cc)

true_byte : (byte : ℕ) → IsKeyByte byte → key_byte_test byte ≡ true
true_byte byte h = go (byte == 127) refl
  where
    go : (t : Bool) → (byte == 127) ≡ t → (nat_lt 32 byte && not t) ≡ true
    go true is = absurd (h.1 (eqb-true byte 127 is))
    go false is = let low : nat_lt 32 byte ≡ true = lt-ltb 32 byte h.0 in rw low refl

pub key_test-true : (bytes : List ℕ) → key_test bytes ≡ true → IsKey bytes
unfolding key_test
key_test-true bytes e =
    let all = and_true (nat_le 1 (length bytes) && nat_le (length bytes) MAX_KEY) (list_all key_byte_test bytes) e in
    let sizes = and_true (nat_le 1 (length bytes)) (nat_le (length bytes) MAX_KEY) all.0 in
    record {
      not_empty = leb-true _ _ sizes.0;
      not_long = leb-true _ _ sizes.1;
      printable = λ k d within. byte_true (get_or bytes k d) (AllPass-from_list_all key_byte_test bytes all.1 k d within);
    }

pub IsKey-test : (bytes : List ℕ) → IsKey bytes → key_test bytes ≡ true
unfolding key_test
IsKey-test bytes key =
    let some : nat_le 1 (length bytes) ≡ true = le-leb 1 (length bytes) key.not_empty in
    let short : nat_le (length bytes) MAX_KEY ≡ true = le-leb (length bytes) MAX_KEY key.not_long in
    let each : list_all key_byte_test bytes ≡ true = list_all-from_AllPass key_byte_test bytes (λ k d within. true_byte (get_or bytes k d) (key.printable k d within)) in
    rw (some, short, each) refl

pub key_test-false : (bytes : List ℕ) → key_test bytes ≡ false → ¬ IsKey bytes
key_test-false bytes e key = let test = IsKey-test bytes key in cc

pub ruleset key_lemmas = (key_test-true, key_test-false)
