use Rattle.std.proofs.Common.{◌≡◌, ◌≤◌, ◌*◌, sum_by}
use Rattle.std.specs.List.{range_with_len}
use Rattle.mr_probes.specs.Choosing.{bare_in}
use Rattle.mr_probes.proofs.choosing.bare_nodes.Given as goal

abbrev pub invariant-loop-number : goal.invariant-loop-number
invariant-loop-number l = record {
  counted : l.bare ≡ sum_by (bare_in l.routing l.keys) (range_with_len 0 l.number);
  few : l.bare ≤ 1024 * l.number;
}
