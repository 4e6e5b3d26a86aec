use Rattle.std.proofs.Common.{◌≡◌, fold, take}
use Rattle.mr_world.specs.Setup.{with_pool}
use Rattle.mr_world.proofs.network.making.add_routing.Given as goal

-- the pools so far have nodes
abbrev pub invariant-loop-pool : goal.invariant-loop-pool
invariant-loop-pool l = l.nodes ≡ fold (with_pool l.capacity) l.initial.nodes (take l.pool-index l.pool-items)
