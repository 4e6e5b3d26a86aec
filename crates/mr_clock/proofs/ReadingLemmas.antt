-- Each reading lies between the least and the greatest one.
use Rattle.std.proofs.Common.{◌≡◌, ℕ, zero, suc, ◌+◌, ◌-◌, ◌≤◌, List, [], ◌∷◌, slice_get, Some, fold, max, min, arith}
use Rattle.std.proofs.Math.Nat.{le-max_left, le-max_right, min-le_left, min-le_right}
use Rattle.mr_clock.specs.Readings.{AreWithin, spread_of}

start_below : (first : ℕ) (rest : List ℕ) → first ≤ fold max first rest
start_below first [] = omega arith
start_below first (x ∷ xs) = omega (arith, start_below (max first x) xs, le-max_left first x)

start_above : (first : ℕ) (rest : List ℕ) → fold min first rest ≤ first
start_above first [] = omega arith
start_above first (x ∷ xs) = omega (arith, start_above (min first x) xs, min-le_left first x)

each_below : (first : ℕ) (rest : List ℕ) (p x : ℕ) → slice_get rest p ≡ Some x → x ≤ fold max first rest
each_below first [] p x at = cc
each_below first (y ∷ ys) zero x at = let same : y ≡ x = cc in omega (arith, start_below (max first y) ys, le-max_right first y)
each_below first (y ∷ ys) (suc p) x at = each_below (max first y) ys p x at

each_above : (first : ℕ) (rest : List ℕ) (p x : ℕ) → slice_get rest p ≡ Some x → fold min first rest ≤ x
each_above first [] p x at = cc
each_above first (y ∷ ys) zero x at = let same : y ≡ x = cc in omega (arith, start_above (min first y) ys, min-le_right first y)
each_above first (y ∷ ys) (suc p) x at = each_above (min first y) ys p x at

below_greatest : (first : ℕ) (rest : List ℕ) (p x : ℕ) → slice_get (first ∷ rest) p ≡ Some x → x ≤ fold max first rest
below_greatest first rest zero x at = let same : first ≡ x = cc in omega (arith, start_below first rest)
below_greatest first rest (suc p) x at = each_below first rest p x at

above_least : (first : ℕ) (rest : List ℕ) (p x : ℕ) → slice_get (first ∷ rest) p ≡ Some x → fold min first rest ≤ x
above_least first rest zero x at = let same : first ≡ x = cc in omega (arith, start_above first rest)
above_least first rest (suc p) x at = each_above first rest p x at

-- no two readings differ by more than the spread, or by more than what is above it
pub are_within : (most : ℕ) (readings : List ℕ) → spread_of readings ≤ most → AreWithin most readings
are_within most [] bound p q x y at at' = cc
are_within most (first ∷ rest) bound p q x y at at' =
    omega (arith, below_greatest first rest p x at, above_least first rest q y at', bound)
