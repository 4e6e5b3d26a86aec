use Rattle.mr_driver.specs.Going.{GoesOn}
use Rattle.mr_flights.specs.Flock.{CanaryStep}
use Rattle.mr_flights.proofs.flight.reach.Given as goal

-- what became of the canary so far
abbrev pub invariant-loop : goal.invariant-loop
invariant-loop g l = GoesOn CanaryStep l.fn.solo.machine l.solo.machine
