use Rattle.mr_driver.specs.Going.{GoesOn}
use Rattle.mr_driver.proofs.links.Links.tick_all.Given as goal

-- what became of the machine so far
abbrev pub invariant-loop-number : goal.invariant-loop-number
invariant-loop-number g l = GoesOn g.M.Linked.link_steps l.fn.engine.machine l.engine.machine
