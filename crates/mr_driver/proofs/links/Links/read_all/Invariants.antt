use Rattle.mr_driver.specs.Going.{GoesOn}
use Rattle.mr_driver.proofs.links.Links.read_all.Given as goal

-- what became of the machine so far
abbrev pub invariant-loop : goal.invariant-loop
invariant-loop g l = GoesOn g.M.Linked.link_steps l.fn.engine.machine l.engine.machine
