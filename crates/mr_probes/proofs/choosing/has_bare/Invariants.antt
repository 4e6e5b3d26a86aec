use Rattle.std.proofs.Common.{◌≡◌, false}
use Rattle.std.specs.List.{list_any, range_with_len}
use Rattle.mr_probes.specs.Choosing.{has_bare_in}
use Rattle.mr_probes.proofs.choosing.has_bare.Given as goal

abbrev pub invariant-loop-number : goal.invariant-loop-number
invariant-loop-number l = list_any (has_bare_in l.routing l.keys) (range_with_len 0 l.number) ≡ false
