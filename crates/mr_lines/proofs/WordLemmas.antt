-- How the words of a line come one by one.
use Rattle.std.proofs.Common.{◌≡◌, ◌≢◌, ℕ, zero, suc, ◌+◌, ◌<◌, ◌≤◌, ◌==◌, Bool, true, false, not, List, [], ◌∷◌, Option, Some, None, length, take, drop, refl, ap, arith, option_map, if◌then◌else◌, unwrap_or, filter, length-take, slice_get}
use Rattle.std.proofs.Math.Seq.{take-length, drop-length}
use Rattle.std.proofs.Common.{add-one}
use Rattle.mr_lines.specs.Lines.{byte_place}
use Rattle.mr_lines.specs.Words.{words_of, pieces_of, is_empty}
use Rattle.mr_lines.proofs.ByteLemmas.{SplitsAt, place_splits}

abbrev PiecesAt : List ℕ → Option ℕ → Type 0
PiecesAt bytes None = pieces_of bytes ≡ bytes ∷ []
PiecesAt bytes (Some place) = pieces_of bytes ≡ take place bytes ∷ pieces_of (drop (place + 1) bytes)

pieces_at : (bytes : List ℕ) (r : Option ℕ) → byte_place 32 bytes ≡ r → PiecesAt bytes r
pieces_at [] None e = refl
pieces_at [] (Some k) e = cc
pieces_at (b ∷ bs) r e = go (pieces_at bs) (b == 32) refl (byte_place 32 bs) refl r e
  where
    go : ((r : Option ℕ) → byte_place 32 bs ≡ r → PiecesAt bs r) → (t : Bool) → (b == 32) ≡ t → (inner : Option ℕ) → byte_place 32 bs ≡ inner → (r : Option ℕ)
        → (if t then Some 0 else option_map (λ place. place + 1) inner) ≡ r → PiecesAt (b ∷ bs) r
    go more true is inner inner_is None e = cc
    go more true is inner inner_is (Some k) e = let k_is : k ≡ 0 = cc in rw (k_is, is) refl
    go more false is None inner_is None e = rw (is, more None inner_is) refl
    go more false is (Some j) inner_is None e = cc
    go more false is None inner_is (Some k) e = cc
    go more false is (Some j) inner_is (Some k) e =
        let k_is : k ≡ suc j = omega (arith, let f : j + 1 ≡ k = cc in f) in
        let rest = more (Some j) inner_is in
        rw (k_is, is, rest) (simp add-one)

word_first : (word : List ℕ) (pieces : List (List ℕ)) → 0 < length word
    → filter (λ piece. not (is_empty piece)) (word ∷ pieces) ≡ word ∷ filter (λ piece. not (is_empty piece)) pieces
word_first [] pieces some = absurd (omega arith)
word_first (b ∷ bs) pieces some = refl

no_space_first : (bytes : List ℕ) (k : ℕ) → slice_get bytes 0 ≢ Some 32 → SplitsAt 32 bytes k → 0 < k
no_space_first bytes zero start at = absurd (start (ap (λ s. slice_get s 0) at.behind))
no_space_first bytes (suc k) start at = omega arith

-- the word at the front, and the words behind it
pub words_at : (bytes : List ℕ) (r : Option ℕ) → byte_place 32 bytes ≡ r → 0 < length bytes → slice_get bytes 0 ≢ Some 32
    → words_of bytes ≡ take (unwrap_or r (length bytes)) bytes ∷ words_of (drop (unwrap_or r (length bytes)) bytes)
words_at bytes None e some start =
    rw (pieces_at bytes None e, take-length bytes, drop-length bytes) (word_first bytes [] some)
words_at bytes (Some k) e some start =
    let at = place_splits 32 bytes k e in
    let first : 0 < k = no_space_first bytes k start at in
    let taken : 0 < length (take k bytes) = let w = at.within in simp length-take (omega arith) in
    rw (pieces_at bytes (Some k) e, at.behind) (word_first (take k bytes) (pieces_of (drop (k + 1) bytes)) taken)

-- what is left behind a word is shorter
pub word_end : (bytes : List ℕ) (r : Option ℕ) → byte_place 32 bytes ≡ r → 0 < length bytes → slice_get bytes 0 ≢ Some 32
    → (0 < unwrap_or r (length bytes)) × (unwrap_or r (length bytes) ≤ length bytes)
word_end bytes None e some start = (some, omega arith)
word_end bytes (Some k) e some start =
    let at = place_splits 32 bytes k e in
    (no_space_first bytes k start at, let w = at.within in omega arith)
