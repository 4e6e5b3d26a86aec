use Rattle.std.proofs.Common.{◌≡◌}
use Rattle.mr_probes.specs.Choosing.{chosen_below}
use Rattle.mr_probes.proofs.choosing.keys_of.Given as goal

abbrev pub invariant-loop-number : goal.invariant-loop-number
invariant-loop-number l = l.keys.items ≡ chosen_below l.routing l.prefix l.run l.count l.number
