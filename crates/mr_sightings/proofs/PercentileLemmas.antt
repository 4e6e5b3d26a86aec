-- Where an answer lies among all.
use Rattle.std.proofs.Common.{◌≡◌, ℕ, zero, suc, ◌+◌, ◌-◌, ◌*◌, ◌/◌, ◌<◌, ◌≤◌, ◌⊎◌, List, [], ◌∷◌, ◌++◌, length, take, drop, get_or, sum, Some, None, refl, ap, sym, ◌∙◌, inl, inr, arith, length-append}
use Rattle.std.proofs.Math.Nat.{mul-pos, mul-le-mul_left}
use Rattle.std.proofs.lemmas.Bool.{cases_lt}
use Rattle.std.proofs.lemmas.List.{length-replicate}
use Rattle.std.proofs.lemmas.List.Sums.{sum_by-cons, sum_by-take-le}
use Rattle.std.proofs.lemmas.Option.{slice_get-get_or}
use Rattle.std.specs.Prelude.{replicate, slice_get}
use Rattle.mr_sightings.specs.Percentile.{each_place, rank_of, percentile_of}

in_this : (count place left : ℕ) (rest : List ℕ) → left < count → slice_get (replicate count place ++ rest) left ≡ Some place
in_this zero place left rest h = absurd (omega arith)
in_this (suc count) place zero rest h = refl
in_this (suc count) place (suc left) rest h = in_this count place left rest (omega arith)

behind_this : (count place left : ℕ) (rest : List ℕ) → count ≤ left → slice_get (replicate count place ++ rest) left ≡ slice_get rest (left - count)
behind_this zero place left rest h = ap (λ n. slice_get rest n) (let e : left ≡ left - 0 = omega arith in e)
behind_this (suc count) place zero rest h = absurd (omega arith)
behind_this (suc count) place (suc left) rest h =
    behind_this count place left rest (omega arith) ∙ ap (λ n. slice_get rest n) (let e : left - count ≡ suc left - suc count = omega arith in e)

-- an answer of the bucket at the head of those that are left
pub answer_here : (counts : List ℕ) (index place left : ℕ) (d : ℕ) → index < length counts → left < get_or counts index d
    → slice_get (each_place place (drop index counts)) left ≡ Some place
answer_here [] index place left d within here = absurd (omega arith)
answer_here (count ∷ counts) zero place left d within here = in_this count place left (each_place (place + 1) counts) here
answer_here (count ∷ counts) (suc index) place left d within here = answer_here counts index place left d (omega arith) here

-- an answer behind it
pub answer_behind : (counts : List ℕ) (index place left : ℕ) (d : ℕ) → index < length counts
    → get_or counts index d ≤ left
    → slice_get (each_place place (drop index counts)) left
    ≡ slice_get (each_place (place + 1) (drop (suc index) counts)) (left - get_or counts index d)
answer_behind [] index place left d within behind = absurd (omega arith)
answer_behind (count ∷ counts) zero place left d within behind = behind_this count place left (each_place (place + 1) counts) behind
answer_behind (count ∷ counts) (suc index) place left d within behind = answer_behind counts index place left d (omega arith) behind

-- in which bucket the answer behind so many lies, where the first has this place
record Lies (counts : List ℕ) (first before place : ℕ) : Type 0 where
  pub bucket : ℕ
  pub there : place ≡ first + bucket
  pub from : sum (take bucket counts) ≤ before
  pub below : before < sum (take (suc bucket) counts)

lies : (counts : List ℕ) (first before place : ℕ) → slice_get (each_place first counts) before ≡ Some place → Lies counts first before place
lies [] first before place found = cc
lies (count ∷ counts) first before place found = go (lies counts (first + 1) (before - count) place) (cases_lt before count)
  where
    go : (slice_get (each_place (first + 1) counts) (before - count) ≡ Some place → Lies counts (first + 1) (before - count) place)
        → (before < count) ⊎ (count ≤ before) → Lies (count ∷ counts) first before place
    go more (inl here) =
        let this = in_this count first before (each_place (first + 1) counts) here in
        let same : first ≡ place = cc in
        record { bucket = 0; there = omega arith; from = omega arith; below = omega arith }
    go more (inr behind) =
        let inner = more (sym (behind_this count first before (each_place (first + 1) counts) behind) ∙ found) in
        record {
          bucket = suc inner.bucket;
          there = omega (arith, inner.there);
          from = rw (sum_by-cons (λ x. x) count (take inner.bucket counts)) (omega (arith, inner.from));
          below = rw (sum_by-cons (λ x. x) count (take (suc inner.bucket) counts)) (omega (arith, inner.below));
        }

rank_reached : (worth rank answers : ℕ) → rank ≡ (worth + 99) / 100 → rank - 1 < answers → worth ≤ 100 * answers
rank_reached worth rank answers is below = omega arith

rank_first : (worth rank answers : ℕ) → 0 < worth → rank ≡ (worth + 99) / 100 → answers ≤ rank - 1 → 100 * answers < worth
rank_first worth rank answers some is from = omega arith

rank_within : (worth rank answers : ℕ) → 0 < answers → worth ≤ 100 * answers → rank ≡ (worth + 99) / 100 → rank - 1 < answers
rank_within worth rank answers some most is = omega arith

-- so many percent lie in the bucket or before it
pub percentile_reached : (percent place : ℕ) (counts : List ℕ) → percentile_of percent counts ≡ Some place
    → sum counts * percent ≤ 100 * sum (take (place + 1) counts)
unfolding percentile_of
percentile_reached percent place counts found =
    let at = lies counts 0 (rank_of percent (sum counts) - 1) place found in
    let same : suc at.bucket ≡ place + 1 = omega (arith, at.there) in
    let below : rank_of percent (sum counts) - 1 < sum (take (place + 1) counts) = rw (← same) at.below in
    rank_reached (sum counts * percent) (rank_of percent (sum counts)) (sum (take (place + 1) counts)) refl below

-- fewer lie before it
pub percentile_first : (percent place : ℕ) (counts : List ℕ) → 0 < percent → percentile_of percent counts ≡ Some place
    → 100 * sum (take place counts) < sum counts * percent
unfolding percentile_of
percentile_first percent place counts positive found =
    let at = lies counts 0 (rank_of percent (sum counts) - 1) place found in
    let same : at.bucket ≡ place = omega (arith, at.there) in
    let from : sum (take place counts) ≤ rank_of percent (sum counts) - 1 = rw (← same) at.from in
    let some : 0 < sum counts = omega (arith, at.below, sum_by-take-le (λ x. x) counts (suc at.bucket)) in
    let worth : 0 < sum counts * percent = mul-pos some positive in
    rank_first (sum counts * percent) (rank_of percent (sum counts)) (sum (take place counts)) worth refl from

length_each : (first : ℕ) (counts : List ℕ) → length (each_place first counts) ≡ sum counts
length_each first [] = refl
length_each first (count ∷ counts) =
    rw (length-append (replicate count first) (each_place (first + 1) counts), length-replicate count first, length_each (first + 1) counts)
    (sym (sum_by-cons (λ x. x) count counts))

-- where there is none, there is no answer
pub percentile_none : (percent : ℕ) (counts : List ℕ) → percent ≤ 100 → percentile_of percent counts ≡ None → sum counts ≡ 0
unfolding percentile_of
percentile_none percent counts most none = go (cases_lt 0 (sum counts))
  where
    go : (0 < sum counts) ⊎ (sum counts ≤ 0) → sum counts ≡ 0
    go (inl some) =
        let worth : sum counts * percent ≤ 100 * sum counts = omega (arith, mul-le-mul_left (sum counts) most) in
        let before = rank_of percent (sum counts) - 1 in
        let within : before < length (each_place 0 counts) =
        rw (length_each 0 counts)
        (rank_within (sum counts * percent) (rank_of percent (sum counts)) (sum counts) some worth refl) in
        let found = slice_get-get_or (each_place 0 counts) before 0 within in
        cc
    go (inr nothing) = omega arith
