use Rattle.std.proofs.Common.{◌≡◌, map, take}
use Rattle.mr_world.specs.Positions.{node_number}
use Rattle.mr_world.proofs.network.making.numbers_by.Given as goal

-- the pools so far have numbers
abbrev pub invariant-loop-pool : goal.invariant-loop-pool
invariant-loop-pool l = l.pools.items ≡ map (λ pool. map (node_number l.nodes) pool) (take l.pool-index l.pool-items)
