use Rattle.mr_tool.proofs.PlannedLemmas.{routing_is_refused, routing_is_said}
use Rattle.mr_tool.proofs.planned.routing_said.Goals as goal

pub returns-clause-routing : goal.returns-clause-routing
returns-clause-routing c =
    routing_is_said c.args.words.now c.in_ok-old.old c.in_ok-new.new c.new.result c.in_ok-old.ensures c.in_ok-new.ensures c.new.ensures

pub returns-clause-refused : goal.returns-clause-refused
returns-clause-refused c =
    routing_is_refused c.args.words.now c.in_ok-old.old c.in_ok-new.new c.new.result c.in_ok-old.ensures c.in_ok-new.ensures c.new.ensures
