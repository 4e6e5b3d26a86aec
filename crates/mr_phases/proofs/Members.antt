-- What a short list contains.
use Rattle.std.proofs.Common.{◌≡◌, ℕ, zero, suc, ◌<◌, ◌⊎◌, [], ◌∷◌, List, get_or, refl, sym, subst, inl, inr, arith}
use Rattle.std.specs.List.{Contains}

pub contains_first : (x : ℕ) (xs : List ℕ) → Contains (x ∷ xs) x
contains_first x xs = (0, omega arith, refl)

pub contains_second : (x y : ℕ) → Contains (x ∷ y ∷ []) y
contains_second x y = (1, omega arith, refl)

pub contains_same : (xs : List ℕ) (x y : ℕ) → x ≡ y → Contains xs x → Contains xs y
contains_same xs x y e h = subst (Contains xs) e h

one_at : (x y : ℕ) (k : ℕ) → k < 1 → get_or (x ∷ []) k y ≡ y → y ≡ x
one_at x y zero below e = sym e
one_at x y (suc k) below e = absurd (omega arith)

pub contained_in_one : (x y : ℕ) → Contains (x ∷ []) y → y ≡ x
contained_in_one x y h = let (k, below, e) = h in one_at x y k below e

two_at : (x y z : ℕ) (k : ℕ) → k < 2 → get_or (x ∷ y ∷ []) k z ≡ z → (z ≡ x) ⊎ (z ≡ y)
two_at x y z zero below e = inl (sym e)
two_at x y z (suc zero) below e = inr (sym e)
two_at x y z (suc (suc k)) below e = absurd (omega arith)

pub contained_in_two : (x y z : ℕ) → Contains (x ∷ y ∷ []) z → (z ≡ x) ⊎ (z ≡ y)
contained_in_two x y z h = let (k, below, e) = h in two_at x y z k below e
