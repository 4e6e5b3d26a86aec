use Rattle.std.proofs.Common.{◌≡◌, drop}
use Rattle.mr_watch.specs.Nodes.{pool_from, pool_of}
use Rattle.mr_watch.proofs.nodes.pool_of.Given as goal

abbrev pub invariant-loop-node : goal.invariant-loop-node
invariant-loop-node l = pool_from l.pool l.sums (drop l.node-index l.nodes) ≡ pool_of l.pool l.nodes
