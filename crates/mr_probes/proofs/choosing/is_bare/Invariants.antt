use Rattle.std.proofs.Common.{◌≡◌, false, take}
use Rattle.std.specs.List.{list_any}
use Rattle.mr_probes.specs.Choosing.{lies_at}
use Rattle.mr_probes.proofs.choosing.is_bare.Given as goal

abbrev pub invariant-loop-key : goal.invariant-loop-key
invariant-loop-key l = list_any (lies_at l.routing l.number l.index) (take l.key-index l.keys) ≡ false
