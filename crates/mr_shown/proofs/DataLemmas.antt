-- Texts of hexadecimal digits are ASCII, so that their characters are their bytes.
use Rattle.std.proofs.Common.{◌≡◌, ℕ, zero, suc, ◌≤◌, ◌<◌, List, [], ◌∷◌, length, Bool, true, false, refl, sym, ap, ◌∙◌, arith, Option, Some, None, unwrap_or, inl, inr, Result, Ok, Err}
use Rattle.std.specs.Prelude.{◌*◌, ◌%◌, ◌/◌, ◌&&◌, nat_le, is_some, IsSome, IsOk, if◌then◌else◌, option_and_then, ◌==◌}
use Rattle.std.specs.List.{list_all}
use Rattle.std.specs.Result.{result_ok}
use Rattle.std.specs.Str.{chars, encode_utf8_all, IsAscii, IsUtf8}
use Rattle.std.proofs.lemmas.Bool.{and_parts, cases_lt}
use Rattle.std.proofs.lemmas.List.Sums.{AllPass-from_list_all, list_all-from_AllPass}
use Rattle.std.proofs.lemmas.Str.{chars-IsAscii, encodes-chars, encodes-IsAscii, chars-encodes}
use Rattle.std.proofs.lemmas.Str.Ascii.{IsAscii-nil, IsAscii-cons}
use lib.Utf8.{scalars}
use Rattle.hex.specs.Hex.{decode_of, encode_lower, lower_digits, is_hex_digit, IsBytes}
use Rattle.hex.specs.declared.error.FromHexError.{FromHexError}
use Rattle.hex.proofs.HexLemmas.{decode_of-ok, decode_of-digits, decode_of-encode_lower, decode_of-same, IsAscii-encode_with}
use Rattle.mr_text.specs.Limits.{MAX_BLOCK}
use Rattle.mr_shown.specs.Data.{data_of, if_few, is_byte, shown_data}
use Rattle.mr_shown.specs.Format.{most_data}
use Rattle.mr_shown.specs.declared.format.Format.{Format}
use Rattle.mr_shown.specs.declared.format.Format.TheVariants.{One, Two}

digit_is_ascii : (c : ℕ) → is_hex_digit c ≡ true → c < 128
digit_is_ascii c is = grind (arith)

digits_are_ascii : (points : List ℕ) → list_all is_hex_digit points ≡ true → IsAscii points
digits_are_ascii [] is = IsAscii-nil
digits_are_ascii (point ∷ points) is =
    let parts = and_parts (is_hex_digit point) (list_all is_hex_digit points) is in
    IsAscii-cons point points (digit_is_ascii point parts.0) (digits_are_ascii points parts.1)

-- the digits of a text are its characters
digits_are_characters : (text : List ℕ) → list_all is_hex_digit text ≡ true → chars text ≡ text
digits_are_characters text is = chars-IsAscii text (digits_are_ascii text is)

-- characters that are digits are the text's bytes
characters_are_digits : (text : List ℕ) → IsUtf8 text → list_all is_hex_digit (chars text) ≡ true → chars text ≡ text
characters_are_digits text utf8 is =
    sym (encodes-IsAscii (chars text) (digits_are_ascii (chars text) is)) ∙ encodes-chars text utf8

decoded_are_digits : (s bytes : List ℕ) → decode_of s ≡ Ok bytes → list_all is_hex_digit s ≡ true
decoded_are_digits s bytes is = list_all-from_AllPass is_hex_digit s (decode_of-ok s bytes is).1

-- the characters of a text decode as its bytes do
decoded_alike : (text : List ℕ) → IsUtf8 text → result_ok (decode_of (chars text)) ≡ result_ok (decode_of text)
decoded_alike text utf8 = go (decode_of text) (decode_of (chars text)) refl refl
  where
    go : (r q : Result (List ℕ) FromHexError) → decode_of text ≡ r → decode_of (chars text) ≡ q → result_ok (decode_of (chars text)) ≡ result_ok (decode_of text)
    go (Ok bytes) q is other = ap (λ (s : List ℕ). result_ok (decode_of s)) (digits_are_characters text (decoded_are_digits text bytes is))
    go (Err e) (Ok bytes) is other =
        ap (λ (s : List ℕ). result_ok (decode_of s)) (characters_are_digits text utf8 (decoded_are_digits (chars text) bytes other))
    go (Err e) (Err f) is other = ap result_ok other ∙ sym (ap result_ok is)

pub data_alike : (text : List ℕ) → IsUtf8 text → data_of Two (chars text) ≡ data_of Two text
data_alike text utf8 = ap (option_and_then (if_few Two)) (decoded_alike text utf8)

-- so many digits are whole bytes, and not too many
abbrev pub are_few_pairs : ℕ → Bool
are_few_pairs digits = (digits % 2 == 0) && nat_le (digits / 2) MAX_BLOCK

even_pairs : (digits : ℕ) → digits % 2 ≡ 0 → digits / 2 ≤ MAX_BLOCK → are_few_pairs digits ≡ true
even_pairs digits even low = grind (arith)

pairs_even : (digits : ℕ) → are_few_pairs digits ≡ true → (digits % 2 ≡ 0) × (digits / 2 ≤ MAX_BLOCK)
pairs_even digits is = (grind (arith), grind (arith))

left_out : (format : Format) (bytes : List ℕ) → most_data format < length bytes → if_few format bytes ≡ None
left_out format bytes high = grind (arith)

kept : (format : Format) (bytes : List ℕ) → length bytes ≤ most_data format → if_few format bytes ≡ Some bytes
kept format bytes low = grind (arith)

taken : (format : Format) (found bytes : List ℕ) → if_few format found ≡ Some bytes → (found ≡ bytes) × (length found ≤ most_data format)
taken format found bytes is =
    elim (cases_lt (most_data format) (length found)) [
      | inl high ↦ cc (sym (left_out format found high) ∙ is)
      | inr low ↦ (ap (λ (o : Option (List ℕ)). unwrap_or o []) (sym (kept format found low) ∙ is), low)
    ]

-- an even number of digits, which are not too many, is data
digits_are_data : (s : List ℕ) → length s % 2 ≡ 0 → length s / 2 ≤ MAX_BLOCK → list_all is_hex_digit s ≡ true → is_some (data_of Two s) ≡ true
digits_are_data s even few is =
    let decoded = decode_of-digits s even (AllPass-from_list_all is_hex_digit s is) in
    let long : length s ≡ 2 * length decoded.0 = (decode_of-ok s decoded.0 decoded.1).2 in
    let low : length decoded.0 ≤ MAX_BLOCK = omega arith in
    rw decoded.1 (ap is_some (kept Two decoded.0 low))

-- what is data is an even number of digits, which are not too many
data_are_digits : (s bytes : List ℕ) → data_of Two s ≡ Some bytes
    → (decode_of s ≡ Ok bytes) × (length bytes ≤ MAX_BLOCK)
data_are_digits s bytes is = go (decode_of s) refl
  where
    go : (r : Result (List ℕ) FromHexError) → decode_of s ≡ r → (decode_of s ≡ Ok bytes) × (length bytes ≤ MAX_BLOCK)
    go (Ok found) e =
        let few : if_few Two found ≡ Some bytes = sym (ap (λ (r : Result (List ℕ) FromHexError). option_and_then (if_few Two) (result_ok r)) e) ∙ is in
        let same = taken Two found bytes few in
        (e ∙ ap Ok same.0, rw same.0 at same.1)
    go (Err refusal) e = cc (sym is ∙ ap (λ (r : Result (List ℕ) FromHexError). option_and_then (if_few Two) (result_ok r)) e)

-- what is looked at tells what is data
pub pairs_are_data : (text : List ℕ) → IsUtf8 text
    → (are_few_pairs (length text) && list_all is_hex_digit text) ≡ is_some (data_of Two (chars text))
pairs_are_data text utf8 = rw (data_alike text utf8) (go (data_of Two text) refl (are_few_pairs (length text)) refl (list_all is_hex_digit text) refl)
  where
    go : (o : Option (List ℕ)) → data_of Two text ≡ o → (few : Bool) → are_few_pairs (length text) ≡ few → (digits : Bool)
        → list_all is_hex_digit text ≡ digits → (few && digits) ≡ is_some o
    go (Some bytes) is few e digits f =
        let found = data_are_digits text bytes is in
        let facts = decode_of-ok text bytes found.0 in
        let all : digits ≡ true = sym f ∙ decoded_are_digits text bytes found.0 in
        let pairs : few ≡ true = sym e ∙ even_pairs (length text) facts.0 (omega (arith, facts.2, found.1)) in
        rw (all, pairs) refl
    go None is true e true f =
        let parts = pairs_even (length text) e in
        cc (sym (digits_are_data text parts.0 parts.1 f) ∙ ap is_some is)
    go None is true e false f = refl
    go None is false e digits f = refl

-- the bytes of data
pub data_decodes : (text : List ℕ) → IsUtf8 text → IsSome (data_of Two (chars text)) → IsOk (decode_of text)
data_decodes text utf8 is = go (data_of Two text) refl (rw (data_alike text utf8) at is)
  where
    go : (o : Option (List ℕ)) → data_of Two text ≡ o → IsSome o → IsOk (decode_of text)
    go (Some bytes) e some = rw (data_are_digits text bytes e).0 refl
    go None e some = cc some

pub decoded_is_data : (text bytes : List ℕ) → IsUtf8 text → IsSome (data_of Two (chars text)) → decode_of text ≡ Ok bytes
    → data_of Two (chars text) ≡ Some bytes
decoded_is_data text bytes utf8 is e = rw (data_alike text utf8) (go (data_of Two text) refl (rw (data_alike text utf8) at is))
  where
    go : (o : Option (List ℕ)) → data_of Two text ≡ o → IsSome o → data_of Two text ≡ Some bytes
    go (Some found) f some = f ∙ ap Some (decode_of-same text found bytes (data_are_digits text found f).0 e)
    go None f some = cc some

-- hexadecimal digits are written as they are
pub shown_as_ascii : (bytes : List ℕ) → encode_utf8_all (encode_lower bytes) ≡ encode_lower bytes
shown_as_ascii bytes = encodes-IsAscii (encode_lower bytes) (IsAscii-encode_with lower_digits bytes (digits_are_ascii lower_digits refl))

lower_are_characters : (bytes : List ℕ) → chars (encode_lower bytes) ≡ encode_lower bytes
lower_are_characters bytes = chars-IsAscii (encode_lower bytes) (IsAscii-encode_with lower_digits bytes (digits_are_ascii lower_digits refl))

bytes_are_scalars : (bytes : List ℕ) → IsBytes bytes → (scalars bytes ≡ true) × (list_all is_byte bytes ≡ true)
bytes_are_scalars [] are = (refl, refl)
bytes_are_scalars (byte ∷ bytes) are =
    let low : byte < 256 = are 0 in
    let rest = bytes_are_scalars bytes (λ i. are (suc i)) in
    (grind (arith, rest.0), grind (arith, rest.1))

-- the text that shows data stands for it
pub read_back : (format : Format) (bytes : List ℕ) → IsBytes bytes → length bytes ≤ most_data format
    → data_of format (chars (encode_utf8_all (shown_data format bytes))) ≡ Some bytes
read_back One bytes are few =
    let parts = bytes_are_scalars bytes are in
    rw (chars-encodes bytes parts.0, parts.1) (kept One bytes few)
read_back Two bytes are few =
    rw (shown_as_ascii bytes, lower_are_characters bytes, decode_of-encode_lower bytes are) (kept Two bytes few)

byte_list : (points : List ℕ) → list_all is_byte points ≡ true → IsBytes points
byte_list [] is = λ i. omega arith
byte_list (point ∷ points) is =
    let parts = and_parts (is_byte point) (list_all is_byte points) is in
    let low : point < 256 = grind (arith, parts.0) in
    let rest = byte_list points parts.1 in
    each low rest
  where
    each : point < 256 → IsBytes points → IsBytes (point ∷ points)
    each low rest zero = low
    each low rest (suc i) = rest i

-- data is bytes, and not too many
pub data_is_bytes : (format : Format) (points bytes : List ℕ) → data_of format points ≡ Some bytes → IsBytes bytes × (length bytes ≤ most_data format)
data_is_bytes One points bytes is = go (list_all is_byte points) refl is
  where
    go : (b : Bool) → list_all is_byte points ≡ b → option_and_then (if_few One) (if b then Some points else None) ≡ Some bytes
        → IsBytes bytes × (length bytes ≤ most_data One)
    go true all found =
        let same = taken One points bytes found in
        (rw same.0 at (byte_list points all), rw same.0 at same.1)
    go false all found = cc
data_is_bytes Two points bytes is =
    let decoded = data_are_digits points bytes is in
    ((decode_of-ok points bytes decoded.0).3, decoded.1)
