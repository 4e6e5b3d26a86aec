-- What one more name does to names that are distinct or apart so far, and one more pool to pools that stand apart.
use Rattle.std.proofs.Common.{◌≡◌, ℕ, ◌+◌, ◌<◌, ◌≤◌, List, All, Contains, length, take, slice_index_or, arith, sym, ◌∙◌, ap, subst, inl, inr, length-take}
use Rattle.std.proofs.lemmas.List.{get_or-take, get_or_default, take_all, take_more}
use Rattle.std.proofs.lemmas.List.Elements.{All-push}
use Rattle.std.proofs.lemmas.Bool.{cases_lt}
use Rattle.mr_pools.specs.Pool.{AreApart}

pub distinct_more : (names : List (List ℕ)) (i : ℕ) (name : List ℕ) → i < length names → name ≡ slice_index_or names i name
    → (Contains (take i names) name → ⊥)
    → ((j k : ℕ) (d : List ℕ) → j < k → k < i → slice_index_or names j d ≡ slice_index_or names k d → ⊥)
    → (j k : ℕ) (d : List ℕ) → j < k → k < i + 1 → slice_index_or names j d ≡ slice_index_or names k d → ⊥
distinct_more names i name in_range is absent below j k d lt within same =
    elim (cases_lt k i) [
      | inl before ↦ below j k d lt before same
      | inr after ↦
          let here : k ≡ i = omega arith in
          let inside : j < length (take i names) = simp length-take (omega arith) in
          absent (
            j,
            inside,
            get_or-take i names j name (omega arith) ∙ get_or_default names j name d (omega arith) ∙ same
                ∙ ap (λ m. slice_index_or names m d) here ∙ get_or_default names i d name in_range ∙ sym is,
          )
    ]

pub apart_more : (old new : List (List ℕ)) (i : ℕ) (name : List ℕ) → i < length old → name ≡ slice_index_or old i name
    → (Contains new name → ⊥)
    → ((k : ℕ) (d : List ℕ) → k < i → Contains new (slice_index_or old k d) → ⊥)
    → (k : ℕ) (d : List ℕ) → k < i + 1 → Contains new (slice_index_or old k d) → ⊥
apart_more old new i name in_range is absent below k d within has =
    elim (cases_lt k i) [
      | inl before ↦ below k d before has
      | inr after ↦
          let here : k ≡ i = omega arith in
          let P : List ℕ → Type 0 = λ n. Contains new n in
          absent (subst P (ap (λ m. slice_index_or old m d) here ∙ get_or_default old i d name in_range ∙ sym is) has)
    ]

pub not_apart : (old new : List (List ℕ)) (i : ℕ) (name : List ℕ) → i < length old → name ≡ slice_index_or old i name
    → Contains new name → AreApart old new → ⊥
not_apart old new i name in_range is has apart =
    let P : List ℕ → Type 0 = λ n. Contains new n in apart i name in_range (subst P is has)

-- one more pool that has none of the pool's names
pub stand_more : (pools : List (List (List ℕ))) (i : ℕ) (earlier pool : List (List ℕ)) → i < length pools
    → earlier ≡ slice_index_or pools i earlier → AreApart earlier pool
    → All (λ p. AreApart p pool) (take i pools) → All (λ p. AreApart p pool) (take (i + 1) pools)
stand_more pools i earlier pool in_range is apart before =
    rw (take_more pools i earlier in_range)
    (All-push (λ p. AreApart p pool) (take i pools) _ before (subst (λ p. AreApart p pool) is apart))

pub not_stand : (pools : List (List (List ℕ))) (i : ℕ) (earlier pool : List (List ℕ)) → i < length pools
    → earlier ≡ slice_index_or pools i earlier → ¬ AreApart earlier pool → ¬ All (λ p. AreApart p pool) pools
not_stand pools i earlier pool in_range is shares all =
    shares (subst (λ p. AreApart p pool) (sym is) (all i earlier in_range))

pub stand_all : (pools : List (List (List ℕ))) (n : ℕ) (pool : List (List ℕ)) → length pools ≤ n
    → All (λ p. AreApart p pool) (take n pools) → All (λ p. AreApart p pool) pools
stand_all pools n pool whole all = subst (λ ps. All (λ p. AreApart p pool) ps) (take_all n pools whole) all
