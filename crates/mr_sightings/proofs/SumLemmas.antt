-- Sums place by place.
use Rattle.std.proofs.Common.{◌≡◌, ℕ, zero, suc, ◌+◌, ◌<◌, ◌≤◌, List, [], ◌∷◌, ◌++◌, length, take, drop, set, get_or, refl, ap, arith}
use Rattle.mr_counting.specs.Counting.{sum_of}
use Rattle.mr_counting.specs.Sums.{sums_of}

-- the sums before a place, and behind it the counts as they were
abbrev pub partly : ℕ → List ℕ → List ℕ → List ℕ
partly place counts more = take place (sums_of counts more) ++ drop place counts

step_at : (place : ℕ) (counts more : List ℕ) (d e : ℕ) → place < length counts → place < length more
    → set (partly place counts more) place (sum_of (get_or (partly place counts more) place d) (get_or more place e)) ≡ partly (suc place) counts more
step_at place [] more d e within within' = absurd (omega arith)
step_at place (count ∷ counts) [] d e within within' = absurd (omega arith)
step_at zero (count ∷ counts) (other ∷ more) d e within within' = refl
step_at (suc place) (count ∷ counts) (other ∷ more) d e within within' =
    ap (λ rest. sum_of count other ∷ rest) (step_at place counts more d e (omega arith) (omega arith))

-- one place more is summed
pub sums_step : (place next : ℕ) (counts more : List ℕ) (d e : ℕ) → next ≡ place + 1 → place < length counts → place < length more
    → set (take place (sums_of counts more) ++ drop place counts) place
    (sum_of (get_or (take place (sums_of counts more) ++ drop place counts) place d) (get_or more place e))
    ≡ take next (sums_of counts more) ++ drop next counts
sums_step place next counts more d e one_on within within' =
    let is_next : next ≡ suc place = omega arith in rw is_next (step_at place counts more d e within within')

-- all places are summed
pub sums_end : (place : ℕ) (counts more : List ℕ) → length counts ≤ place → take place (sums_of counts more) ++ drop place counts ≡ sums_of counts more
sums_end zero [] more past = refl
sums_end (suc place) [] more past = refl
sums_end zero (count ∷ counts) more past = absurd (omega arith)
sums_end (suc place) (count ∷ counts) [] past = ap (λ rest. count ∷ rest) (sums_end place counts [] (omega arith))
sums_end (suc place) (count ∷ counts) (other ∷ more) past = ap (λ rest. sum_of count other ∷ rest) (sums_end place counts more (omega arith))
