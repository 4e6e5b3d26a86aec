-- A schedule with one more hop at its end.
use Rattle.std.proofs.Common.{◌≡◌, ℕ, ◌+◌, ◌*◌, ◌^◌, ◌-◌, ◌<◌, ◌≤◌, List, [], ◌∷◌, ◌++◌, length, take, drop, replicate, set, All, ◌∙◌, sym, ap, subst, arith, length-append, length-set, length-take}
use Rattle.std.proofs.lemmas.List.{take_more_set, drop-set-lt, drop-drop, drop-replicate}
use Rattle.std.proofs.lemmas.List.Elements.{All-nil, All-cons, All-append}
use Rattle.mr_phases.specs.Schedule.{Hop, one_hop, most_hops, IsChainFrom, IsChain, IsSchedule, end_from, chain_end}
use Rattle.mr_phases.specs.Filled.{IsFilled, no_hop}

chain_from_longer : (h : Hop) (hs : List Hop) (start interval : ℕ) → IsChainFrom h hs → end_from h hs ≤ start → IsChainFrom h (hs ++ one_hop start interval)
chain_from_longer h [] start interval chain late = (late, tt)
chain_from_longer h (g ∷ gs) start interval chain late = (chain.0, chain_from_longer g gs start interval chain.1 late)

chain_longer : (hops : List Hop) (start interval : ℕ) → IsChain hops → chain_end hops ≤ start → IsChain (hops ++ one_hop start interval)
chain_longer [] start interval chain late = tt
chain_longer (h ∷ hs) start interval chain late = chain_from_longer h hs start interval chain late

all_longer : (P : Hop → Type 0) (hops : List Hop) (hop : Hop) → All P hops → P hop → All P (hops ++ hop ∷ [])
all_longer P hops hop each last = All-append P hops (hop ∷ []) each (All-cons P hop [] last (All-nil P))

schedule_longer : (hops : List Hop) (start interval : ℕ) → IsSchedule hops → 0 < interval → start + 2 * interval < 2 ^ 64
    → length hops < most_hops → chain_end hops ≤ start → IsSchedule (hops ++ one_hop start interval)
schedule_longer hops start interval valid lasts fits few late =
    let hop : Hop = record { start = start; interval = interval } in
    let counted = length-append hops (one_hop start interval) in
    record {
      begins = omega arith;
      few = omega arith;
      chain = chain_longer hops start interval valid.chain late;
      lasts = all_longer (λ h. 0 < h.interval) hops hop valid.lasts lasts;
      fits = all_longer (λ h. h.start + 2 * h.interval < 2 ^ 64) hops hop valid.fits fits;
    }

pub filled_longer : (hops : List Hop) (count start interval : ℕ) → IsFilled hops count → 0 < interval → start + 2 * interval < 2 ^ 64
    → length (take count hops) < most_hops → chain_end (take count hops) ≤ start
    → IsFilled (set hops count (record { start = start; interval = interval })) (count + 1)
filled_longer hops count start interval filled lasts fits few late =
    let hop : Hop = record { start = start; interval = interval } in
    let same = length-set hops count hop in
    let places = filled.places in
    let within = filled.within in
    let counted = length-take count hops in
    let longer : take (count + 1) (set hops count hop) ≡ take count hops ++ hop ∷ [] = take_more_set hops count hop (omega arith) in
    record {
      places = omega arith;
      within = omega arith;
      blank = drop-set-lt (count + 1) hops count hop (omega arith)
          ∙ sym (drop-drop 1 count hops)
          ∙ ap (λ (l : List Hop). drop 1 l) filled.blank
          ∙ drop-replicate 1 (most_hops - count) no_hop
          ∙ ap (λ n. replicate n no_hop) (omega arith);
      schedule = subst IsSchedule (sym longer) (schedule_longer (take count hops) start interval filled.schedule lasts fits few late);
    }
