use Rattle.mr_flights.proofs.FlightLemmas.{IsUnderway}
use Rattle.mr_flights.specs.Scene.{scene_of}
use Rattle.mr_flights.proofs.flight.fly_seconds.Given as goal

-- the seconds so far were written, and are kept
abbrev pub invariant-loop-number : goal.invariant-loop-number
invariant-loop-number g l = IsUnderway l.manner l.span (scene_of l.scene) l.fn.solo.machine l.log l.solo.machine (g.O.Sink.told l.fn.output) l.number (g.O.Sink.told l.output)
