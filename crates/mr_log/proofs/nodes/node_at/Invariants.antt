use Rattle.std.proofs.Common.{◌≡◌, drop, slice_get}
use Rattle.mr_log.specs.Nodes.{nodes_from, nodes_of}
use Rattle.mr_log.proofs.nodes.node_at.Given as goal

-- the node is where it would be among those of the pools that are left
abbrev pub invariant-loop-index : goal.invariant-loop-index
invariant-loop-index l = slice_get (nodes_of l.pools) l.number ≡ slice_get (nodes_from l.index (drop l.index l.pools)) l.left
