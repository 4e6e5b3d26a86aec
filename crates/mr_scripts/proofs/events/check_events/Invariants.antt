use Rattle.mr_scripts.proofs.EventLemmas.{IsSeen}
use Rattle.mr_scripts.proofs.events.check_events.Given as goal

abbrev pub invariant-loop-index : goal.invariant-loop-index
invariant-loop-index l = IsSeen l.format l.values l.index
