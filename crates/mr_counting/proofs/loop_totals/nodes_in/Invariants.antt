use Rattle.std.proofs.Common.{◌≡◌, ◌≤◌, ◌*◌, length, take, sum_by}
use Rattle.mr_counting.proofs.loop_totals.nodes_in.Given as goal

-- the nodes of the pools so far
abbrev pub invariant-loop-pool : goal.invariant-loop-pool
invariant-loop-pool l = record { count : l.nodes ≡ sum_by length (take l.pool-index l.routing.pools); few : l.nodes ≤ 1024 * l.pool-index }
