-- Elements of lists that grow or change at one place, and two cuts of the same bytes.
use Rattle.std.proofs.Common.{◌≡◌, ◌≢◌, ℕ, zero, suc, ◌+◌, ◌⊎◌, inl, inr, List, [], ◌∷◌, ◌++◌, length, map, replicate, slice_get, slice_set, Some, refl, sym, ap, ◌∙◌, arith}
use Rattle.mr_history.specs.Places.{At}

got_left : {X : Type 0} (xs ys : List X) (i : ℕ) (x : X) → slice_get xs i ≡ Some x → slice_get (xs ++ ys) i ≡ Some x
got_left [] ys i x e = cc
got_left (z ∷ xs) ys zero x e = e
got_left (z ∷ xs) ys (suc i) x e = got_left xs ys i x e

-- a list that grew has what it had
pub at_left : {X : Type 0} {xs : List X} (ys : List X) {i : ℕ} {x : X} → At xs i x → At (xs ++ ys) i x
at_left {xs = xs} ys {i = i} {x = x} h = record { gets = got_left xs ys i x h.gets }

got_new : {X : Type 0} (xs : List X) (y : X) → slice_get (xs ++ y ∷ []) (length xs) ≡ Some y
got_new [] y = refl
got_new (z ∷ xs) y = got_new xs y

-- the new element stands behind the others
pub at_new : {X : Type 0} (xs : List X) (y : X) → At (xs ++ y ∷ []) (length xs) y
at_new xs y = record { gets = got_new xs y }

got_written : {X : Type 0} (xs : List X) (k : ℕ) (v w : X) → slice_get xs k ≡ Some w → slice_get (slice_set xs k v) k ≡ Some v
got_written [] k v w g = cc
got_written (z ∷ xs) zero v w g = refl
got_written (z ∷ xs) (suc k) v w g = got_written xs k v w g

-- what was written stands there
pub at_written : {X : Type 0} {xs : List X} {k : ℕ} {w : X} (v : X) → At xs k w → At (slice_set xs k v) k v
at_written {xs = xs} {k = k} {w = w} v h = record { gets = got_written xs k v w h.gets }

set_back : {X : Type 0} (xs : List X) (k : ℕ) (v : X) → slice_get xs k ≡ Some v → slice_set xs k v ≡ xs
set_back [] k v e = refl
set_back (z ∷ xs) zero v e = let same : z ≡ v = cc in ap (λ y. y ∷ xs) (sym same)
set_back (z ∷ xs) (suc k) v e = ap (λ ys. z ∷ ys) (set_back xs k v e)

-- what stands there already is written without a change
pub written_back : {X : Type 0} {xs : List X} {k : ℕ} {v : X} → At xs k v → slice_set xs k v ≡ xs
written_back {xs = xs} {k = k} {v = v} h = set_back xs k v h.gets

got_set : {X : Type 0} (xs : List X) (k : ℕ) (v : X) (i : ℕ) (x : X) → slice_get (slice_set xs k v) i ≡ Some x
    → ((i ≡ k) × (x ≡ v)) ⊎ ((i ≢ k) × (slice_get xs i ≡ Some x))
got_set [] k v i x e = cc
got_set (z ∷ xs) zero v zero x e = inl (refl, cc)
got_set (z ∷ xs) zero v (suc i) x e = inr (λ (h : suc i ≡ 0). absurd (omega arith), e)
got_set (z ∷ xs) (suc k) v zero x e = inr (λ (h : 0 ≡ suc k). absurd (omega arith), e)
got_set (z ∷ xs) (suc k) v (suc i) x e =
    elim (got_set xs k v i x e) [
      | inl h ↦ inl (ap suc h.0, h.1)
      | inr h ↦ inr (λ (same : suc i ≡ suc k). h.0 (omega arith), h.1)
    ]

-- after a write the list has the new element at its place, and the old ones elsewhere
pub at_set : {X : Type 0} (xs : List X) (k : ℕ) (v : X) {i : ℕ} {x : X} → At (slice_set xs k v) i x → ((i ≡ k) × (x ≡ v)) ⊎ ((i ≢ k) × At xs i x)
at_set xs k v {i = i} {x = x} h = elim (got_set xs k v i x h.gets) [ inl e ↦ inl e | inr e ↦ inr (e.0, record { gets = e.1 }) ]

-- the first of two cuts is no later than the other
abbrev pub IsEarlierCut : List ℕ → List ℕ → List ℕ → List ℕ → Type 0
IsEarlierCut xs ys zs ws = (t : List ℕ) × (zs ≡ xs ++ t) × (ys ≡ t ++ ws)

cut_behind : (x z : ℕ) (xs ys zs ws : List ℕ) → x ≡ z → IsEarlierCut xs ys zs ws → IsEarlierCut (x ∷ xs) ys (z ∷ zs) ws
cut_behind x z xs ys zs ws same (t, is, left) = (t, ap (λ n. n ∷ zs) (sym same) ∙ ap (λ (l : List ℕ). x ∷ l) is, left)

-- of two cuts of the same bytes one is the earlier
pub two_cuts : (xs ys zs ws : List ℕ) → xs ++ ys ≡ zs ++ ws → IsEarlierCut xs ys zs ws ⊎ IsEarlierCut zs ws xs ys
two_cuts [] ys zs ws same = inl (zs, refl, same)
two_cuts (x ∷ xs) ys [] ws same = inr (x ∷ xs, refl, sym same)
two_cuts (x ∷ xs) ys (z ∷ zs) ws same =
    let first : x ≡ z = cc in
    let later : xs ++ ys ≡ zs ++ ws = cc in
    elim (two_cuts xs ys zs ws later) [
      | inl one ↦ inl (cut_behind x z xs ys zs ws first one)
      | inr one ↦ inr (cut_behind z x zs ws xs ys (sym first) one)
    ]

got_map : {X Y : Type 0} (f : X → Y) (xs : List X) (i : ℕ) (y : Y) → slice_get (map f xs) i ≡ Some y → (x : X) × (slice_get xs i ≡ Some x) × (y ≡ f x)
got_map f [] i y e = cc
got_map f (z ∷ xs) zero y e = (z, refl, cc)
got_map f (z ∷ xs) (suc i) y e = got_map f xs i y e

-- what a changed list has is a changed element
pub at_map : {X Y : Type 0} (f : X → Y) (xs : List X) {i : ℕ} {y : Y} → At (map f xs) i y → (x : X) × At xs i x × (y ≡ f x)
at_map f xs {i = i} {y = y} h = let g = got_map f xs i y h.gets in (g.0, record { gets = g.1 }, g.2)

mapped : {X Y : Type 0} (f : X → Y) (xs : List X) (i : ℕ) (x : X) → slice_get xs i ≡ Some x → slice_get (map f xs) i ≡ Some (f x)
mapped f [] i x e = cc
mapped f (z ∷ xs) zero x e = let same : z ≡ x = cc in ap (λ y. Some (f y)) same
mapped f (z ∷ xs) (suc i) x e = mapped f xs i x e

-- and each changed element stands there
pub at_mapped : {X Y : Type 0} (f : X → Y) {xs : List X} {i : ℕ} {x : X} → At xs i x → At (map f xs) i (f x)
at_mapped f {xs = xs} {i = i} {x = x} h = record { gets = mapped f xs i x h.gets }

got_elsewhere : {X : Type 0} (xs : List X) (k : ℕ) (v : X) (i : ℕ) (x : X) → i ≢ k → slice_get xs i ≡ Some x → slice_get (slice_set xs k v) i ≡ Some x
got_elsewhere [] k v i x ne e = e
got_elsewhere (z ∷ xs) zero v zero x ne e = absurd (ne refl)
got_elsewhere (z ∷ xs) zero v (suc i) x ne e = e
got_elsewhere (z ∷ xs) (suc k) v zero x ne e = e
got_elsewhere (z ∷ xs) (suc k) v (suc i) x ne e = got_elsewhere xs k v i x (λ s. ne (ap suc s)) e

-- what stands elsewhere stays
pub at_elsewhere : {X : Type 0} {xs : List X} {k i : ℕ} {x : X} (v : X) → i ≢ k → At xs i x → At (slice_set xs k v) i x
at_elsewhere {xs = xs} {k = k} {i = i} {x = x} v ne h = record { gets = got_elsewhere xs k v i x ne h.gets }

-- a list has one element at a place
pub at_one : {X : Type 0} {xs : List X} {i : ℕ} {x y : X} → At xs i x → At xs i y → x ≡ y
at_one h k = let e = h.gets in let f = k.gets in cc

pub same_or_not : (n i : ℕ) → (n ≡ i) ⊎ (n ≢ i)
same_or_not zero zero = inl refl
same_or_not zero (suc i) = inr (λ e. omega arith)
same_or_not (suc n) zero = inr (λ e. omega arith)
same_or_not (suc n) (suc i) = elim (same_or_not n i) [ inl e ↦ inl (ap suc e) | inr ne ↦ inr (λ e. ne (omega arith)) ]

got_last : {X : Type 0} (xs : List X) (y : X) (i : ℕ) (x : X) → slice_get (xs ++ y ∷ []) i ≡ Some x → (slice_get xs i ≡ Some x) ⊎ ((i ≡ length xs) × (x ≡ y))
got_last [] y zero x e = inr (refl, cc)
got_last [] y (suc i) x e = cc
got_last (z ∷ xs) y zero x e = inl e
got_last (z ∷ xs) y (suc i) x e = elim (got_last xs y i x e) [ inl h ↦ inl h | inr h ↦ inr (ap suc h.0, h.1) ]

-- what a list with one more has
pub at_last : {X : Type 0} (xs : List X) (y : X) {i : ℕ} {x : X} → At (xs ++ y ∷ []) i x → (At xs i x) ⊎ ((i ≡ length xs) × (x ≡ y))
at_last xs y {i = i} {x = x} h = elim (got_last xs y i x h.gets) [ inl e ↦ inl (record { gets = e }) | inr e ↦ inr e ]

got_right : {X : Type 0} (xs ys : List X) (i : ℕ) (x : X) → slice_get ys i ≡ Some x → slice_get (xs ++ ys) (length xs + i) ≡ Some x
got_right [] ys i x e = let z : 0 + i ≡ i = omega arith in rw z e
got_right (w ∷ xs) ys i x e = let z : suc (length xs) + i ≡ suc (length xs + i) = omega arith in rw z (got_right xs ys i x e)

-- what stands behind others
pub at_right : {X : Type 0} (xs : List X) {ys : List X} {i : ℕ} {x : X} → At ys i x → At (xs ++ ys) (length xs + i) x
at_right xs {ys = ys} {i = i} {x = x} h = record { gets = got_right xs ys i x h.gets }

got_replicate : {X : Type 0} (n : ℕ) (y : X) (i : ℕ) (x : X) → slice_get (replicate n y) i ≡ Some x → x ≡ y
got_replicate zero y i x e = cc
got_replicate (suc n) y zero x e = cc
got_replicate (suc n) y (suc i) x e = got_replicate n y i x e

-- a list of one element has that alone
pub at_replicate : {X : Type 0} (n : ℕ) (y : X) {i : ℕ} {x : X} → At (replicate n y) i x → x ≡ y
at_replicate n y {i = i} {x = x} h = got_replicate n y i x h.gets

-- nothing stands in an empty list
pub at_nothing : {X : Type 0} {i : ℕ} {x : X} → At [] i x → ⊥
at_nothing h = let e = h.gets in cc
