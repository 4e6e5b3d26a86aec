use Rattle.mr_driver.specs.Going.{GoesOn}
use Rattle.mr_driver.proofs.solo.LinkLoop.wait.Given as goal

-- what became of the machine so far
abbrev pub invariant-loop-event : goal.invariant-loop-event
invariant-loop-event g l = GoesOn g.M.Linked.link_steps l.fn.self.engine.machine l.self.engine.machine
