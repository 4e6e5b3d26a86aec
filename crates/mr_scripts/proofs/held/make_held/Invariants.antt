use Rattle.mr_scripts.specs.Setups.{held_of}
use Rattle.mr_scripts.proofs.ReadingLemmas.{AreMade}
use Rattle.mr_scripts.proofs.held.make_held.Given as goal

abbrev pub invariant-loop-value : goal.invariant-loop-value
invariant-loop-value l = AreMade (held_of l.format) l.values l.value-index l.items.items
