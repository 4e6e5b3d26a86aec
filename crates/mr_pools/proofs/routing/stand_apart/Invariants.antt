use Rattle.std.proofs.Common.{All, take}
use Rattle.mr_pools.specs.Pool.{AreApart}
use Rattle.mr_pools.proofs.routing.stand_apart.Given as goal

-- none of the names stands in the pools so far
abbrev pub invariant-loop-earlier : goal.invariant-loop-earlier
invariant-loop-earlier l = All (λ earlier. AreApart earlier l.names) (take l.earlier-index l.pools)
