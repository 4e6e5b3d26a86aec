use Rattle.std.proofs.Common.{◌≡◌, ◌≤◌, count_by}
use Rattle.std.specs.List.{range_with_len}
use Rattle.mr_probes.specs.Choosing.{is_bare}
use Rattle.mr_probes.proofs.choosing.bare_in.Given as goal

abbrev pub invariant-loop-index : goal.invariant-loop-index
invariant-loop-index l = record {
  counted : l.bare ≡ count_by (is_bare l.routing l.keys l.number) (range_with_len 0 l.index);
  few : l.bare ≤ l.index;
}
