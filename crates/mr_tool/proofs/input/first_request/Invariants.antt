use Rattle.mr_tool.proofs.RequestLemmas.{HasFed}
use Rattle.mr_tool.proofs.input.first_request.Given as goal

abbrev pub invariant-loop-turn : goal.invariant-loop-turn
invariant-loop-turn g l = HasFed (g.I.Source.told l.initial.input) (g.I.Source.told l.input) l.reader l.turn
