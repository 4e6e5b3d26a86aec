use Rattle.std.proofs.Common.{◌≡◌, ◌++◌, drop}
use Rattle.mr_watch.specs.Nodes.{lines_in}
use Rattle.mr_watch.proofs.nodes.push_each_in.Given as goal

abbrev pub invariant-loop-node : goal.invariant-loop-node
invariant-loop-node l = l.text.items ++ lines_in l.pool (drop l.node-index l.nodes) ≡ l.initial.text.items ++ lines_in l.pool l.nodes
