-- The first hop that hasn't begun, hop by hop.
use Rattle.std.proofs.Common.{◌≡◌, ℕ, ◌+◌, ◌≤◌, Bool, List, length, Option, ap, sym, arith, add-one}
use Rattle.mr_phases.specs.Schedule.{Hop, start_at}
use Rattle.mr_watch.specs.Premises.{are_before}
use Rattle.mr_watch.specs.PremiseLines.{or_pool, upcoming, upcoming_pool}
use Rattle.mr_watch.specs.declared.look.ProxySeen.{ProxySeen}

pub upcoming-more : (hops : List Hop) (proxies : List ProxySeen) (hop : ℕ) (before after : Option ℕ) (here : Bool) (start : ℕ)
    → before ≡ upcoming hops proxies hop → start ≡ start_at hops hop → here ≡ are_before start proxies → after ≡ or_pool before here (hop + 1)
    → after ≡ upcoming hops proxies (hop + 1)
upcoming-more hops proxies hop before after here start e s h f = rw (f, e, h, s) (ap (λ n. upcoming hops proxies n) (sym (add-one hop)))

pub upcoming-end : (hops : List Hop) (proxies : List ProxySeen) (hop : ℕ) (first : Option ℕ) → first ≡ upcoming hops proxies hop
    → hop ≤ length hops → length hops ≤ hop → first ≡ upcoming_pool hops proxies
upcoming-end hops proxies hop first e low high = let same : hop ≡ length hops = omega arith in rw same at e
