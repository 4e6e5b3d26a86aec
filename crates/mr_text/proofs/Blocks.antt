-- A block and the line end behind it are there where the reading finds them.
use Rattle.std.proofs.Common.{◌≡◌, ◌≢◌, ℕ, ◌+◌, ◌<◌, ◌≤◌, ◌==◌, Bool, true, false, not, List, [], ◌∷◌, ◌++◌, length, take, drop, get_or, Result, Ok, Err, refl, sym, ◌∙◌, ap, subst, arith, if◌then◌else◌, inl, inr, nat_le, leb-false, eqb-true, length-append, length-drop, append_assoc, get_or-drop, drop-drop, add-zero}
use Rattle.std.proofs.lemmas.Bool.{lt-leb, ne_eqb, eqb-false}
use Rattle.std.proofs.Math.Seq.{get_or-append_seam}
use Rattle.std.proofs.lemmas.List.{length-take-le, take-append-drop, get_or-append-add, take_more}
use Rattle.mr_lines.specs.Blocks.{block_end}
use Rattle.mr_lines.specs.declared.blocks.BlockEnd.TheVariants.{Awaited, Found, Wrong}
use Rattle.mr_text.specs.Requests.{EndsBadly}
use Rattle.mr_text.specs.steps.Reading.{has_end, block_reading}
use Rattle.mr_text.specs.declared.error.TextError.{TextError}
use Rattle.mr_text.specs.declared.error.TextError.TheVariants.{BadDataEnd}

at_seam : (block rest : List ℕ) (byte : ℕ) → get_or (block ++ (byte ∷ rest)) (length block) 0 ≡ byte
at_seam block rest byte = get_or-append_seam block byte rest 0

behind_seam : (block rest : List ℕ) (first second : ℕ) → get_or (block ++ (first ∷ second ∷ rest)) (length block + 1) 0 ≡ second
behind_seam block rest first second = get_or-append-add block (first ∷ second ∷ rest) 1 0

longer : (block rest : List ℕ) (byte : ℕ) → nat_le (length (block ++ (byte ∷ rest))) (length block) ≡ false
longer block rest byte = lt-leb (length (block ++ (byte ∷ rest))) (length block) (let size = length-append block (byte ∷ rest) in omega arith)

longer_by_two : (block rest : List ℕ) (first second : ℕ) → nat_le (length (block ++ (first ∷ second ∷ rest))) (length block + 1) ≡ false
longer_by_two block rest first second = lt-leb (length (block ++ (first ∷ second ∷ rest))) (length block + 1) (let size = length-append block (first ∷ second ∷ rest) in omega arith)

-- a block with its line end is read
pub block_found : (block after : List ℕ) → block_reading (length block) (block ++ (13 ∷ 10 ∷ after)) ≡ Ok true
unfolding block_reading block_end
block_found block after =
    rw (longer block (10 ∷ after) 13, at_seam block (10 ∷ after) 13, longer_by_two block after 13 10, behind_seam block after 13 10) refl

-- a wrong byte behind it is refused
pub bad_found : (block_length : ℕ) (bytes : List ℕ) → EndsBadly block_length bytes → block_reading block_length bytes ≡ Err BadDataEnd
unfolding block_reading block_end
bad_found block_length bytes h = elim h.ends [
  | inl e ↦ subst (λ n. block_reading n bytes ≡ Err BadDataEnd) h.whole (subst (λ s. block_reading (length h.block) s ≡ Err BadDataEnd) (sym e.0) (first_wrong e.1))
  | inr e ↦ subst (λ n. block_reading n bytes ≡ Err BadDataEnd) h.whole (subst (λ s. block_reading (length h.block) s ≡ Err BadDataEnd) (sym e.0) (second_wrong e.1))
]
  where
    first_wrong : h.wrong ≢ 13 → block_reading (length h.block) (h.block ++ (h.wrong ∷ h.after)) ≡ Err BadDataEnd
    first_wrong ne = let other : (h.wrong == 13) ≡ false = ne_eqb h.wrong 13 ne in
        rw (longer h.block h.after h.wrong, at_seam h.block h.after h.wrong, other) refl

    second_wrong : h.wrong ≢ 10 → block_reading (length h.block) (h.block ++ (13 ∷ h.wrong ∷ h.after)) ≡ Err BadDataEnd
    second_wrong ne = let other : (h.wrong == 10) ≡ false = ne_eqb h.wrong 10 ne in
        rw (longer h.block (h.wrong ∷ h.after) 13, at_seam h.block (h.wrong ∷ h.after) 13, longer_by_two h.block h.after 13 h.wrong, behind_seam h.block h.after 13 h.wrong, other) refl

-- a list from a place on
cut : (bytes : List ℕ) (place : ℕ) → place < length bytes → bytes ≡ take place bytes ++ (get_or bytes place 0 ∷ drop (place + 1) bytes)
cut bytes place within =
    sym (take-append-drop (place + 1) bytes) ∙ (rw (take_more bytes place 0 within) (append_assoc (take place bytes) (get_or bytes place 0 ∷ []) (drop (place + 1) bytes)))

-- what the reading finds
pub record IsBlockRead (block_length : ℕ) (bytes : List ℕ) : Type 0 where
  pub within : block_length + 2 ≤ length bytes
  pub splits : bytes ≡ take block_length bytes ++ (13 ∷ 10 ∷ drop (block_length + 2) bytes)

abbrev pub BlockIs : ℕ → List ℕ → Result Bool TextError → Type 0
BlockIs block_length bytes (Ok true) = IsBlockRead block_length bytes
BlockIs block_length bytes (Ok false) = Unit {0}
BlockIs block_length bytes (Err refusal) = (refusal ≡ BadDataEnd) × EndsBadly block_length bytes

two : (bytes : List ℕ) (n : ℕ) → n + 1 < length bytes → bytes ≡ take n bytes ++ (get_or bytes n 0 ∷ get_or bytes (n + 1) 0 ∷ drop (n + 2) bytes)
two bytes n within =
    let first = cut bytes n (omega arith) in
    let rest = cut (drop (n + 1) bytes) 0 (rw (length-drop (n + 1) bytes) (omega arith)) in
    let second : get_or (drop (n + 1) bytes) 0 0 ≡ get_or bytes (n + 1) 0 = get_or-drop (n + 1) bytes 0 0 ∙ ap (λ i. get_or bytes i 0) (add-zero (n + 1)) in
    let behind : drop 1 (drop (n + 1) bytes) ≡ drop (n + 2) bytes = drop-drop 1 (n + 1) bytes ∙ ap (λ i. drop i bytes) (omega arith) in
    first ∙ ap (λ s. take n bytes ++ (get_or bytes n 0 ∷ s)) (rest ∙ rw (second, behind) refl)

pub block_is : (block_length : ℕ) (bytes : List ℕ) → BlockIs block_length bytes (block_reading block_length bytes)
unfolding block_reading block_end
block_is n bytes = short (nat_le (length bytes) n) refl
  where
    size : n ≤ length bytes → length (take n bytes) ≡ n
    size h = length-take-le n bytes h

    last : n + 1 < length bytes → get_or bytes n 0 ≡ 13 → (t : Bool) → (get_or bytes (n + 1) 0 == 10) ≡ t → BlockIs n bytes (has_end (if t then Found else Wrong))
    last within cr true e =
        let lf = eqb-true (get_or bytes (n + 1) 0) 10 e in
        record { within = omega arith; splits = let both = two bytes n within in rw (cr, lf) at both }
    last within cr false e = (
      refl,
      record {
        block = take n bytes;
        whole = size (omega arith);
        wrong = get_or bytes (n + 1) 0;
        after = drop (n + 2) bytes;
        ends = inr (let both = two bytes n within in rw cr at both, eqb-false _ _ e);
      },
    )

    second : n < length bytes → get_or bytes n 0 ≡ 13 → (t : Bool) → nat_le (length bytes) (n + 1) ≡ t
        → BlockIs n bytes (has_end (if t then Awaited else if get_or bytes (n + 1) 0 == 10 then Found else Wrong))
    second within cr true e = tt
    second within cr false e = last (leb-false _ _ e) cr (get_or bytes (n + 1) 0 == 10) refl

    first : n < length bytes → (t : Bool) → (get_or bytes n 0 == 13) ≡ t
        → BlockIs n bytes (has_end (if not t then Wrong else if nat_le (length bytes) (n + 1) then Awaited
        else if get_or bytes (n + 1) 0 == 10 then Found else Wrong))
    first within true e = second within (eqb-true _ _ e) (nat_le (length bytes) (n + 1)) refl
    first within false e = (
      refl,
      record {
        block = take n bytes;
        whole = size (omega arith);
        wrong = get_or bytes n 0;
        after = drop (n + 1) bytes;
        ends = inl (cut bytes n within, eqb-false _ _ e);
      },
    )

    short : (t : Bool) → nat_le (length bytes) n ≡ t
        → BlockIs n bytes (has_end (if t then Awaited else if not (get_or bytes n 0 == 13) then Wrong
        else if nat_le (length bytes) (n + 1) then Awaited else if get_or bytes (n + 1) 0 == 10 then Found else Wrong))
    short true e = tt
    short false e = first (leb-false _ _ e) (get_or bytes n 0 == 13) refl
