-- How the lines of a text come one by one.
use Rattle.std.proofs.Common.{◌≡◌, ℕ, suc, ◌+◌, ◌==◌, Bool, true, false, List, [], ◌∷◌, Option, Some, None, length, take, drop, refl, arith, option_map, if◌then◌else◌, add-one, ◌-◌, ◌≤◌, length-drop}
use Rattle.std.proofs.lemmas.List.{take_all}
use Rattle.mr_lines.specs.Lines.{byte_place}
use Rattle.mr_watch.specs.Lines.{lines_of}

abbrev LinesAt : List ℕ → Option ℕ → Type 0
LinesAt bytes None = lines_of bytes ≡ []
LinesAt bytes (Some place) = lines_of bytes ≡ take place bytes ∷ lines_of (drop (place + 1) bytes)

pub lines_at : (bytes : List ℕ) (r : Option ℕ) → byte_place 10 bytes ≡ r → LinesAt bytes r
lines_at [] None e = refl
lines_at [] (Some k) e = cc
lines_at (b ∷ bs) r e = go (lines_at bs) (b == 10) refl (byte_place 10 bs) refl r e
  where
    go : ((r : Option ℕ) → byte_place 10 bs ≡ r → LinesAt bs r) → (t : Bool) → (b == 10) ≡ t → (inner : Option ℕ) → byte_place 10 bs ≡ inner → (r : Option ℕ)
        → (if t then Some 0 else option_map (λ place. place + 1) inner) ≡ r → LinesAt (b ∷ bs) r
    go more true is inner inner_is None e = cc
    go more true is inner inner_is (Some k) e = let k_is : k ≡ 0 = cc in rw (k_is, is) refl
    go more false is None inner_is None e = rw (is, more None inner_is) refl
    go more false is (Some j) inner_is None e = cc
    go more false is None inner_is (Some k) e = cc
    go more false is (Some j) inner_is (Some k) e =
        let k_is : k ≡ suc j = omega (arith, let f : j + 1 ≡ k = cc in f) in
        let rest = more (Some j) inner_is in
        rw (k_is, is, rest) (simp add-one)

pub no_line : (bytes : List ℕ) (r : Option ℕ) → r ≡ byte_place 10 bytes → r ≡ None → lines_of bytes ≡ []
no_line bytes r e none = lines_at bytes None (let same : byte_place 10 bytes ≡ None = cc in same)

pub first_line : (bytes : List ℕ) (r : Option ℕ) (end : ℕ) → r ≡ byte_place 10 bytes → r ≡ Some end
    → lines_of bytes ≡ take end bytes ∷ lines_of (take (length bytes - (end + 1)) (drop (end + 1) bytes))
first_line bytes r end e some =
    let enough : length (drop (end + 1) bytes) ≤ length bytes - (end + 1) = omega (arith, length-drop (end + 1) bytes) in
    rw (take_all (length bytes - (end + 1)) (drop (end + 1) bytes) enough) (lines_at bytes (Some end) (let same : byte_place 10 bytes ≡ Some end = cc in same))
