use Rattle.std.proofs.Common.{◌≡◌, ◌≤◌, ◌-◌, vec_len, replicate}
use Rattle.mr_counting.specs.LoopTotals.{no_link}
use Rattle.mr_counting.proofs.loop_totals.unlinked.Given as goal

-- the nodes so far have no link
abbrev pub invariant-loop-nodes : goal.invariant-loop-nodes
invariant-loop-nodes l = record { unlinked : l.nodes.items ≡ replicate (vec_len l.nodes) no_link; within : vec_len l.nodes ≤ l.count }

abbrev pub decreases-loop-nodes : goal.decreases-loop-nodes
decreases-loop-nodes l = l.count - vec_len l.nodes
