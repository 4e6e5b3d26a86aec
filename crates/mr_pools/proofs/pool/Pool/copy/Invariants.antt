use Rattle.std.proofs.Common.{◌≡◌, take}
use Rattle.mr_pools.proofs.pool.Pool.copy.Given as goal

-- the copied names are the first ones
abbrev pub invariant-loop-name : goal.invariant-loop-name
invariant-loop-name l = l.names.items ≡ take l.name-index l.name-items
