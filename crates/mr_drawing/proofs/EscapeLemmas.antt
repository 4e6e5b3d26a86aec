-- What is shown of bytes is read back.
use Rattle.std.proofs.Common.{◌≡◌, ℕ, zero, suc, ◌+◌, ◌*◌, ◌<◌, ◌≤◌, List, [], ◌∷◌, ◌++◌, length, drop, Bool, true, false, nat_lt, refl, sym, ap, ◌∙◌, arith, rules, inl, inr, length-append}
use Rattle.std.specs.Prelude.{◌/◌, ◌%◌, ◌==◌, All}
use Rattle.std.proofs.lemmas.Bool.{cases_Bool, eqb-true}
use Rattle.std.proofs.lemmas.List.{drop_at}
use Rattle.std.proofs.lemmas.List.Elements.{All-head, All-tail}
use Rattle.std.proofs.Math.Nat.{div-add-mod}
use Rattle.mr_drawing.specs.Escape.{hex_digit, is_printable, shown_byte, shown, digit_of, first_byte, first_length, read_some, read_back}

-- a digit has its value
digit_back : (value : ℕ) → value < 16 → digit_of (hex_digit value) ≡ value
digit_back value low = grind (arith)

-- two digits have the value of their byte
digits_back : (byte : ℕ) → byte < 256 → 16 * digit_of (hex_digit (byte / 16)) + digit_of (hex_digit (byte % 16)) ≡ byte
digits_back byte low =
    let high : byte / 16 < 16 = grind (arith) in
    let rest : byte % 16 < 16 = grind (arith) in
    let one = digit_back (byte / 16) high in
    let other = digit_back (byte % 16) rest in
    let whole = div-add-mod byte 16 in
    rw (one, other) whole

-- what is shown of a byte, whatever stands behind it, stands for that byte
pub record IsFront (byte : ℕ) (rest : List ℕ) : Type 0 where
  pub value : first_byte (shown_byte byte ++ rest) ≡ byte
  pub size : first_length (shown_byte byte ++ rest) ≡ length (shown_byte byte)
  pub some : 0 < length (shown_byte byte)

-- that of a byte which means nothing to XML
plain_front : (byte : ℕ) (rest : List ℕ) → byte < 256 → (byte == 38) ≡ false → (byte == 60) ≡ false → (byte == 62) ≡ false → (byte == 34) ≡ false
    → (byte == 39) ≡ false → (byte == 92) ≡ false → (printable : Bool) → is_printable byte ≡ printable → IsFront byte rest
plain_front byte rest low e1 e2 e3 e4 e5 e6 true is = record {
  value = simp (e1, e2, e3, e4, e5, e6, is);
  size = simp (e1, e2, e3, e4, e5, e6, is);
  some = simp (e1, e2, e3, e4, e5, e6, is) (search rules);
}
plain_front byte rest low e1 e2 e3 e4 e5 e6 false is = record {
  value = simp (e1, e2, e3, e4, e5, e6, is) (digits_back byte low);
  size = simp (e1, e2, e3, e4, e5, e6, is);
  some = simp (e1, e2, e3, e4, e5, e6, is) (search rules);
}

front : (byte : ℕ) (rest : List ℕ) → byte < 256 → IsFront byte rest
front byte rest low =
    elim (cases_Bool (byte == 38)) [
      | inl is ↦ rw (eqb-true byte 38 is) (record { value = refl; size = refl; some = search rules })
      | inr e1 ↦ elim (cases_Bool (byte == 60)) [
        | inl is ↦ rw (eqb-true byte 60 is) (record { value = refl; size = refl; some = search rules })
        | inr e2 ↦ elim (cases_Bool (byte == 62)) [
          | inl is ↦ rw (eqb-true byte 62 is) (record { value = refl; size = refl; some = search rules })
          | inr e3 ↦ elim (cases_Bool (byte == 34)) [
            | inl is ↦ rw (eqb-true byte 34 is) (record { value = refl; size = refl; some = search rules })
            | inr e4 ↦ elim (cases_Bool (byte == 39)) [
              | inl is ↦ rw (eqb-true byte 39 is) (record { value = refl; size = refl; some = search rules })
              | inr e5 ↦ elim (cases_Bool (byte == 92)) [
                | inl is ↦ rw (eqb-true byte 92 is) (record { value = refl; size = refl; some = search rules })
                | inr e6 ↦ plain_front byte rest low e1 e2 e3 e4 e5 e6 (is_printable byte) refl
              ]
            ]
          ]
        ]
      ]
    ]

-- one byte is read, and then what is left
one_read : (more : ℕ) (text rest : List ℕ) (byte : ℕ) → first_byte text ≡ byte → drop (first_length text) text ≡ rest → 0 < length text
    → read_some (suc more) text ≡ byte ∷ read_some more rest
one_read more text rest byte value left long =
    let some : nat_lt 0 (length text) ≡ true = search rules in
    rw (some, value, left) refl

-- so many bytes are read as there are, if so many may be
read_all : (bytes : List ℕ) (more : ℕ) → All (λ byte. byte < 256) bytes → length bytes ≤ more → read_some more (shown bytes) ≡ bytes
read_all [] zero are few = refl
read_all [] (suc more) are few = refl
read_all (byte ∷ bytes) zero are few = absurd (omega arith)
read_all (byte ∷ bytes) (suc more) are few =
    let low : byte < 256 = All-head (λ b. b < 256) byte bytes are in
    let begun = front byte (shown bytes) low in
    let some = begun.some in
    let left = drop_at (shown_byte byte) (shown bytes) (first_length (shown_byte byte ++ shown bytes)) (sym begun.size) in
    let long : 0 < length (shown_byte byte ++ shown bytes) = grind (arith, length-append) in
    one_read more (shown_byte byte ++ shown bytes) (shown bytes) byte begun.value left long
    ∙ ap (λ rest. byte ∷ rest) (read_all bytes more (All-tail (λ b. b < 256) byte bytes are) (omega arith))

-- what is shown is no shorter
shown_longer : (bytes : List ℕ) → All (λ byte. byte < 256) bytes → length bytes ≤ length (shown bytes)
shown_longer [] are = omega arith
shown_longer (byte ∷ bytes) are =
    let low : byte < 256 = All-head (λ b. b < 256) byte bytes are in
    let some = (front byte (shown bytes) low).some in
    let later = shown_longer bytes (All-tail (λ b. b < 256) byte bytes are) in
    let whole = length-append (shown_byte byte) (shown bytes) in
    omega arith

-- what is shown of bytes is read back as they are
pub shown_read_back : (bytes : List ℕ) → All (λ byte. byte < 256) bytes → read_back (shown bytes) ≡ bytes
shown_read_back bytes are = read_all bytes (length (shown bytes)) are (shown_longer bytes are)
