use Rattle.std.proofs.Common.{◌≡◌, false}
use Rattle.std.specs.List.{list_any, range_with_len}
use Rattle.mr_probes.specs.Choosing.{is_bare}
use Rattle.mr_probes.proofs.choosing.has_bare_in.Given as goal

abbrev pub invariant-loop-index : goal.invariant-loop-index
invariant-loop-index l = list_any (is_bare l.routing l.keys l.number) (range_with_len 0 l.index) ≡ false
