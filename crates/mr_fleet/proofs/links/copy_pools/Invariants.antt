use Rattle.std.proofs.Common.{◌≡◌, take, map}
use Rattle.mr_fleet.proofs.links.copy_pools.Given as goal

-- the copied links are those of the first pools
abbrev pub invariant-loop-nodes : goal.invariant-loop-nodes
invariant-loop-nodes g l = map (λ nodes. nodes.items) l.copies.items ≡ map (λ nodes. nodes.items) (take l.nodes-index l.pools)
