-- What two pools that stand apart make, and what one more pool makes of a routing.
use Rattle.std.proofs.Common.{◌≡◌, ◌≢◌, ◌⊎◌, ℕ, zero, suc, ◌<◌, List, [], ◌∷◌, ◌++◌, length, slice_index_or, arith, ap, sym, subst, ◌∙◌, inl, inr, length-append}
use Rattle.std.proofs.Math.ListN.{get_or-append}
use Rattle.std.proofs.Math.Seq.{get_or-append_seam}
use Rattle.std.proofs.lemmas.Bool.{cases_lt}
use Rattle.mr_pools.specs.declared.hash.NamedHash.{NamedHash}
use Rattle.mr_pools.specs.Limits.{most_pools}
use Rattle.mr_pools.specs.Pool.{IsPool, AreApart}
use Rattle.mr_pools.specs.Routing.{RoutingView, IsRouting, StandsApart, pool_of, routing_between, routing_onto}

each_of_two : (old new : List (List ℕ)) → IsPool old → IsPool new → (number : ℕ) → number < 2
    → IsPool (slice_index_or (old ∷ new ∷ []) number [])
each_of_two old new p q zero lt = p
each_of_two old new p q (suc zero) lt = q
each_of_two old new p q (suc (suc n)) lt = absurd (omega arith)

both_apart : (old new : List (List ℕ)) → AreApart old new → (earlier later : ℕ) → earlier < later → later < 2
    → AreApart (slice_index_or (old ∷ new ∷ []) earlier []) (slice_index_or (old ∷ new ∷ []) later [])
both_apart old new apart zero zero lt within = absurd (omega arith)
both_apart old new apart zero (suc zero) lt within = apart
both_apart old new apart zero (suc (suc n)) lt within = absurd (omega arith)
both_apart old new apart (suc m) later lt within = absurd (omega arith)

pub routing_between-sound : (old new : List (List ℕ)) (hash : NamedHash) → IsPool old → IsPool new → AreApart old new
    → IsRouting (routing_between old new hash)
routing_between-sound old new hash p q apart =
    record { migrates = omega arith; few = omega arith; sized = each_of_two old new p q; apart = both_apart old new apart }

-- a place of the longer list is one of the shorter, or the last one
before_or_last : (pools : List (List (List ℕ))) (pool : List (List ℕ)) (n : ℕ) → n < length (pools ++ pool ∷ [])
    → ((n < length pools) × (slice_index_or (pools ++ pool ∷ []) n [] ≡ slice_index_or pools n []))
    ⊎ ((n ≡ length pools) × (slice_index_or (pools ++ pool ∷ []) n [] ≡ pool))
before_or_last pools pool n within =
    elim (cases_lt n (length pools)) [
      | inl before ↦ inl (before, get_or-append pools (pool ∷ []) [] n before)
      | inr past ↦
          let here : n ≡ length pools = omega (arith, length-append pools (pool ∷ [])) in
          inr (here, ap (λ m. slice_index_or (pools ++ pool ∷ []) m []) here ∙ get_or-append_seam pools pool [] [])
    ]

pub routing_onto-sound : (routing : RoutingView) (pool : List (List ℕ)) → IsRouting routing
    → length routing.pools < most_pools → IsPool pool → StandsApart routing pool → IsRouting (routing_onto routing pool)
routing_onto-sound routing pool is few new apart =
    record {
      migrates = omega (arith, length-append routing.pools (pool ∷ []), is.migrates);
      few = omega (arith, length-append routing.pools (pool ∷ []), few);
      sized = λ number within.
          elim (before_or_last routing.pools pool number within) [
            | inl before ↦ subst IsPool (sym before.1) (is.sized number before.0)
            | inr last ↦ subst IsPool (sym last.1) new
          ];
      apart = λ earlier later lt within.
          elim (before_or_last routing.pools pool later within) [
            | inl before ↦
                let at : slice_index_or (routing.pools ++ pool ∷ []) earlier [] ≡ pool_of routing earlier
                = get_or-append routing.pools (pool ∷ []) [] earlier (omega (arith, before.0)) in
                rw (at, before.1) (is.apart earlier later lt before.0)
            | inr last ↦
                let inside : earlier < length routing.pools = omega (arith, last.0) in
                let at : slice_index_or (routing.pools ++ pool ∷ []) earlier [] ≡ pool_of routing earlier
                = get_or-append routing.pools (pool ∷ []) [] earlier inside in
                rw (at, last.1) (apart earlier [] inside)
          ];
    }

-- what is made of the parts of a routing is the routing that goes on
pub routing_onto-made : (held more : List (List (List ℕ))) (hash : NamedHash) (routing : RoutingView)
    (pool : List (List ℕ)) → record { pools = held; hash = hash } ≡ routing → more ≡ held ++ pool ∷ []
    → record { pools = more; hash = hash } ≡ routing_onto routing pool
routing_onto-made held more hash routing pool opened longer =
    ap (λ (pools : List (List (List ℕ))). record { pools = pools; hash = hash }) longer
    ∙ ap (λ (r : RoutingView). routing_onto r pool) opened

-- where a routing hasn't as many pools as it may have, there is room for one
pub room_left : (pools : List (List (List ℕ))) (routing : RoutingView) → pools ≡ routing.pools → IsRouting routing
    → length pools ≢ most_pools → length routing.pools < most_pools
room_left pools routing lent is other = omega (arith, ap length lent, is.few, other)
