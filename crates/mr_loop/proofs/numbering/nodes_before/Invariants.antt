use Rattle.std.proofs.Common.{◌≡◌, ◌≤◌, ◌*◌, length, take, sum_by}
use Rattle.mr_loop.proofs.numbering.nodes_before.Given as goal

-- the nodes of the pools so far
abbrev pub invariant-loop-index : goal.invariant-loop-index
invariant-loop-index l = record {
  count : l.nodes ≡ sum_by length (take l.index l.routing.pools);
  few : l.nodes ≤ 1024 * l.index;
  before : l.index ≤ l.number;
}
