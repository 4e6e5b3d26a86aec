use Rattle.mr_scripts.specs.Setups.{held_of}
use Rattle.mr_scripts.proofs.ReadingLemmas.{AreSeen}
use Rattle.mr_scripts.proofs.held.check_held.Given as goal

abbrev pub invariant-loop-value : goal.invariant-loop-value
invariant-loop-value l = AreSeen (held_of l.format) l.values l.value-index
