use Rattle.mr_scripts.proofs.EventLemmas.{AreMade}
use Rattle.mr_scripts.proofs.events.make_events.Given as goal

abbrev pub invariant-loop-value : goal.invariant-loop-value
invariant-loop-value l = AreMade l.format l.values l.value-index l.events.items
