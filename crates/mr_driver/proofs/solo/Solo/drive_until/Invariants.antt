use Rattle.mr_driver.specs.Going.{GoesOn}
use Rattle.mr_driver.proofs.solo.Solo.drive_until.Given as goal

-- a further turn may come, and what became of the machine so far
abbrev pub invariant-loop : goal.invariant-loop
invariant-loop g l =
    (goal.iterator-loop g).can_next l.iterator' × (goal.iterator-loop g).is_finite l.iterator'
    × GoesOn g.M.Linked.link_steps l.fn.self.machine l.self-inside.turns.engine.machine
