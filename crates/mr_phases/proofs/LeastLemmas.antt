-- The least interval, by going over the hops from the front.
use Rattle.std.proofs.Common.{◌≡◌, ℕ, ◌<◌, min, List, [], ◌∷◌, length, fold, refl, ◌∙◌, arith}
use Rattle.mr_phases.specs.Schedule.{Hop, least_from, least_interval, interval_at}

folded_from : (n : ℕ) (h : Hop) (hs : List Hop) → fold (λ least (hop : Hop). min least hop.interval) n (h ∷ hs) ≡ min n (least_from h hs)
folded_from n h [] = refl
folded_from n h (g ∷ gs) = folded_from (min n h.interval) g gs ∙ thrice n h.interval (least_from g gs)
  where
    thrice : (a b c : ℕ) → min (min a b) c ≡ min a (min b c)
    thrice a b c = omega arith

least_first : (h : Hop) (hs : List Hop) → min h.interval (least_from h hs) ≡ least_from h hs
least_first h [] = omega arith
least_first h (g ∷ gs) = omega arith

pub least_folded : (hops : List Hop) → 0 < length hops → fold (λ least (hop : Hop). min least hop.interval) (interval_at hops 0) hops ≡ least_interval hops
least_folded [] some = absurd (omega arith)
least_folded (h ∷ hs) some = folded_from h.interval h hs ∙ least_first h hs
