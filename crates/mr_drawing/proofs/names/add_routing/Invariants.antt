use Rattle.std.proofs.Common.{◌≡◌, drop, fold}
use Rattle.mr_drawing.specs.Names.{with_pool}
use Rattle.mr_drawing.proofs.names.add_routing.Given as goal

-- the pools so far are added, and the others are left
abbrev pub invariant-loop-pool : goal.invariant-loop-pool
invariant-loop-pool l = fold with_pool l.names.items (drop l.pool-index l.pool-items) ≡ fold with_pool l.initial.names.items l.pool-items
