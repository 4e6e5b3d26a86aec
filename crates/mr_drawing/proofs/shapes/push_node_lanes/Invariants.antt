use Rattle.std.proofs.Common.{◌≡◌, ◌++◌}
use Rattle.mr_drawing.specs.Shapes.{node_lanes}
use Rattle.mr_drawing.proofs.shapes.push_node_lanes.Given as goal

-- the lanes so far are there
abbrev pub invariant-loop-node : goal.invariant-loop-node
invariant-loop-node l = l.shapes.items ≡ l.initial.shapes.items ++ node_lanes l.node
