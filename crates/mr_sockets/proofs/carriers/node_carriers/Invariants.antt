use Rattle.std.proofs.Common.{◌≡◌, map, take}
use Rattle.mr_sockets.specs.Carriers.{carriers_to}
use Rattle.mr_sockets.proofs.carriers.node_carriers.Given as goal

abbrev pub invariant-loop-pool : goal.invariant-loop-pool
invariant-loop-pool g l = map (λ carriers. carriers.items) l.pools.items ≡ carriers_to l.fn.turns (take l.pool-index l.pool-items)
