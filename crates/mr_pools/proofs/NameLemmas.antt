-- A name of a routing stands in one pool alone, and there at one index.
use Rattle.std.proofs.Common.{◌≡◌, ◌≢◌, ℕ, ◌<◌, ◌⊎◌, List, [], Contains, length, slice_index_or, arith, sym, subst, ◌∙◌, inl, inr}
use Rattle.std.proofs.lemmas.List.{get_or_default}
use Rattle.mr_pools.specs.Names.{name_at, HasNode}
use Rattle.mr_pools.specs.Routing.{RoutingView, IsRouting, pool_of}

three_ways : (p q : ℕ) → (p < q) ⊎ ((q < p) ⊎ (p ≡ q))
three_ways p q = grind arith

-- an equal name would stand in the other pool
stands_in : (pool : List (List ℕ)) (j : ℕ) (name : List ℕ) → j < length pool → name ≡ slice_index_or pool j [] → Contains pool name
stands_in pool j name within e = (j, within, get_or_default pool j name [] within ∙ sym e)

pub share_no_name_lem : (routing : RoutingView) (p q i j : ℕ) → IsRouting routing → HasNode routing p i → HasNode routing q j
    → p ≢ q → name_at routing p i ≢ name_at routing q j
share_no_name_lem routing p q i j is a b differ same =
    elim (three_ways p q) [
      | inl before ↦
          is.apart p q before b.pool i [] a.within (stands_in (pool_of routing q) j (name_at routing p i) b.within same)
      | inr (inl after) ↦
          is.apart q p after a.pool j [] b.within
          (stands_in (pool_of routing p) i (name_at routing q j) a.within (sym same))
      | inr (inr equal) ↦ differ equal
    ]

pub distinct_names_lem : (routing : RoutingView) (p i j : ℕ) → IsRouting routing → HasNode routing p i → HasNode routing p j
    → i ≢ j → name_at routing p i ≢ name_at routing p j
distinct_names_lem routing p i j is a b differ same =
    elim (three_ways i j) [
      | inl before ↦ (is.sized p a.pool).distinct i j [] before b.within same
      | inr (inl after) ↦ (is.sized p a.pool).distinct j i [] after a.within (sym same)
      | inr (inr equal) ↦ differ equal
    ]

pub stand_once_lem : (routing : RoutingView) (p q i j : ℕ) → IsRouting routing → HasNode routing p i → HasNode routing q j
    → name_at routing p i ≡ name_at routing q j → (p ≡ q) × (i ≡ j)
stand_once_lem routing p q i j is a b same =
    let one : p ≡ q = equal_by p q (λ differ. share_no_name_lem routing p q i j is a b differ same) in
    let here : HasNode routing p j = subst (λ n. HasNode routing n j) (sym one) b in
    let alike : name_at routing p i ≡ name_at routing p j
    = subst (λ n. name_at routing p i ≡ name_at routing n j) (sym one) same in
    (one, equal_by i j (λ differ. distinct_names_lem routing p i j is a here differ alike))
  where
    equal_by : (m n : ℕ) → (m ≢ n → ⊥) → m ≡ n
    equal_by m n never =
        elim (three_ways m n) [
          | inl before ↦ absurd (never (λ e. (let lt = before in omega arith)))
          | inr (inl after) ↦ absurd (never (λ e. (let lt = after in omega arith)))
          | inr (inr equal) ↦ equal
        ]
