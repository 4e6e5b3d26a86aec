-- Numbers as digits: how many there are, and that they are read back.
use Rattle.std.proofs.Common.{◌≡◌, ℕ, suc, zero, ◌*◌, ◌^◌, ◌<◌, ◌↔◌, true, false, List, [], ◌∷◌, ◌++◌, length, take, drop, get_or, Ok, Err, Result, OnOk, nat_eq, refl, sym, ap, ◌∙◌, arith, eqb-true, eq-eqb, take-append-drop, length-drop, length-append}
use Rattle.std.specs.Prelude.{MatchResult, is_err}
use Rattle.std.specs.Cmp.Lexicographic.{pointwise}
use Rattle.std.proofs.lemmas.Bool.{and_parts, and_from}
use Rattle.std.proofs.lemmas.List.{get_or-drop}
use Rattle.std.specs.Int.{w64, to_be_bytes, from_be_bytes, bytes_high_first, byte_at}
use Rattle.std.proofs.lemmas.Nat.{be_bytes_8, from_be_bytes-to_be_bytes_8}
use Rattle.hex.specs.Hex.{IsBytes, encode_lower, decode_sized, lower_digits}
use Rattle.hex.specs.declared.error.FromHexError.{FromHexError}
use Rattle.hex.proofs.HexLemmas.{decode_of-ok, decode_sized-encode_lower, decode_sized-ok, decode_sized-twice, length-encode_with}
use Rattle.mr_probes.specs.Digits.{number_text, word_text}

small_cons : (b : ℕ) (rest : List ℕ) → b < 256 → IsBytes rest → IsBytes (b ∷ rest)
small_cons b rest h hs zero = h
small_cons b rest h hs (suc i) = hs i

small_none : IsBytes []
small_none i = omega arith

byte_small : (i n : ℕ) → byte_at i n < 256
byte_small zero n = omega arith
byte_small (suc i) n = omega arith

high_small : (k n : ℕ) → IsBytes (bytes_high_first k n)
high_small zero n = small_none
high_small (suc k) n = small_cons (byte_at k n) (bytes_high_first k n) (byte_small k n) (high_small k n)

length_high : (k n : ℕ) → length (bytes_high_first k n) ≡ k
length_high zero n = refl
length_high (suc k) n = ap suc (length_high k n)

-- the digits of a number are read as its bytes
pub number_read : (n : ℕ) → decode_sized (number_text n) 8 ≡ Ok (to_be_bytes w64 n)
unfolding number_text
number_read n = decode_sized-encode_lower (to_be_bytes w64 n) 8 (length_high 8 n) (high_small 8 n)

-- there are so many
pub length-number_text : (n : ℕ) → length (number_text n) ≡ 16
unfolding number_text
length-number_text n = length-encode_with lower_digits (to_be_bytes w64 n) ∙ ap (λ k. 2 * k) (length_high 8 n)

-- bytes that are read from digits are those of a number, where the digits are its own
pub digits_of : (digits bytes : List ℕ) → decode_sized digits 8 ≡ Ok bytes → (n : ℕ) → n < 2 ^ 64 → digits ≡ number_text n → from_be_bytes w64 bytes ≡ n
digits_of digits bytes read n fits same =
    let e : ◌≡◌ {A = Result (List ℕ) FromHexError} (Ok bytes) (Ok (to_be_bytes w64 n)) = sym read ∙ ap (λ d. decode_sized d 8) same ∙ number_read n in
    let b : bytes ≡ to_be_bytes w64 n = cc in
    ap (λ x. from_be_bytes w64 x) b ∙ from_be_bytes-to_be_bytes_8 n fits

pub number_of : (bytes : List ℕ) → length bytes ≡ 8 → IsBytes bytes → (n : ℕ) → from_be_bytes w64 bytes ≡ n → encode_lower bytes ≡ number_text n
unfolding number_text
number_of bytes long small n is = ap encode_lower (sym (be_bytes_8 bytes n long small (sym is)))

-- what decoding into room for the bytes says, where it gave no error, and where it gave one

pub read_of : (d : Result (List ℕ) FromHexError) (out : List ℕ) (result : Result (Unit {0}) FromHexError)
    → MatchResult d (λ bytes. (result ≡ Ok tt) × (out ≡ bytes)) (λ e. result ≡ Err e) → is_err result ≡ false → d ≡ Ok out
read_of (Ok bytes) out result m f = ap Ok (sym m.1)
read_of (Err e) out result m f = let t : is_err result ≡ true = ap is_err m in absurd (cc)

pub unread_of : (d : Result (List ℕ) FromHexError) (out : List ℕ) (result : Result (Unit {0}) FromHexError)
    → MatchResult d (λ bytes. (result ≡ Ok tt) × (out ≡ bytes)) (λ e. result ≡ Err e) → is_err result ≡ true → (bytes : List ℕ) → d ≡ Ok bytes → ⊥
unread_of (Ok b) out result m t bytes e = let f : is_err result ≡ false = ap is_err m.0 in cc
unread_of (Err x) out result m t bytes e = cc

pub on_ok : (r : Result (Unit {0}) FromHexError) (P : Type 0) → OnOk r P → is_err r ≡ false → P
on_ok (Ok u) P h f = h
on_ok (Err e) P h f = absurd (cc)

-- what is read of digits are eight bytes
pub bytes_of : (digits bytes : List ℕ) → decode_sized digits 8 ≡ Ok bytes → (length bytes ≡ 8) × IsBytes bytes
bytes_of digits bytes read =
    let long = decode_sized-ok digits 8 bytes read in
    let ok = decode_of-ok digits bytes (sym (decode_sized-twice digits 8 long) ∙ read) in
    (omega (arith, long, ok.2), ok.3)

-- equal bytes, by the test

pub same_bytes : (xs ys : List ℕ) → pointwise nat_eq xs ys ≡ true → xs ≡ ys
same_bytes [] [] e = refl
same_bytes [] (y ∷ ys) e = absurd (cc)
same_bytes (x ∷ xs) [] e = absurd (cc)
same_bytes (x ∷ xs) (y ∷ ys) e =
    let p = and_parts (nat_eq x y) (pointwise nat_eq xs ys) e in
    let head : x ≡ y = eqb-true x y p.0 in
    let tail : xs ≡ ys = same_bytes xs ys p.1 in
    cc

pub bytes_same : (xs : List ℕ) → pointwise nat_eq xs xs ≡ true
bytes_same [] = refl
bytes_same (x ∷ xs) = and_from (nat_eq x x) (pointwise nat_eq xs xs) (eq-eqb x x refl) (bytes_same xs)

-- parts of texts

pub take_front : (a b : List ℕ) (n : ℕ) → length a ≡ n → take n (a ++ b) ≡ a
take_front [] b zero e = refl
take_front [] b (suc n) e = absurd (omega arith)
take_front (x ∷ a) b zero e = absurd (omega arith)
take_front (x ∷ a) b (suc n) e = ap (λ t. x ∷ t) (take_front a b n (omega arith))

pub drop_front : (a b : List ℕ) (n : ℕ) → length a ≡ n → drop n (a ++ b) ≡ b
drop_front [] b zero e = refl
drop_front [] b (suc n) e = absurd (omega arith)
drop_front (x ∷ a) b zero e = absurd (omega arith)
drop_front (x ∷ a) b (suc n) e = drop_front a b n (omega arith)

-- a text of 17 bytes whose last is a dash, and its first 16

dash_behind : (xs : List ℕ) → length xs ≡ 1 → get_or xs 0 0 ≡ 45 → xs ≡ 45 ∷ []
dash_behind [] l e = absurd (omega arith)
dash_behind (x ∷ []) l e = ap (λ y. y ∷ []) e
dash_behind (x ∷ y ∷ ys) l e = absurd (omega arith)

pub word_splits : (text : List ℕ) → length text ≡ 17 → get_or text 16 0 ≡ 45 → text ≡ take 16 text ++ 45 ∷ []
word_splits text l e =
    let long : length (drop 16 text) ≡ 1 = omega (arith, length-drop 16 text) in
    let first : get_or (drop 16 text) 0 0 ≡ 45 = get_or-drop 16 text 0 0 ∙ e in
    sym (take-append-drop 16 text) ∙ ap (λ d. take 16 text ++ d) (dash_behind (drop 16 text) long first)

pub word_is : (text : List ℕ) → length text ≡ 17 → get_or text 16 0 ≡ 45 → (n : ℕ) → (take 16 text ≡ number_text n) ↔ (text ≡ word_text n)
word_is text l e n = (
  λ same. word_splits text l e ∙ ap (λ t. t ++ 45 ∷ []) same,
  λ same. ap (take 16) same ∙ take_front (number_text n) (45 ∷ []) 16 (length-number_text n),
)

pub length-word_text : (n : ℕ) → length (word_text n) ≡ 17
length-word_text n = omega (arith, length-append (number_text n) (45 ∷ []), length-number_text n)

last_byte : (a : List ℕ) (n : ℕ) → length a ≡ n → get_or (a ++ 45 ∷ []) n 0 ≡ 45
last_byte [] zero e = refl
last_byte [] (suc n) e = absurd (omega arith)
last_byte (x ∷ a) zero e = absurd (omega arith)
last_byte (x ∷ a) (suc n) e = last_byte a n (omega arith)

pub dash_of_word : (n : ℕ) → get_or (word_text n) 16 0 ≡ 45
dash_of_word n = last_byte (number_text n) 16 (length-number_text n)
