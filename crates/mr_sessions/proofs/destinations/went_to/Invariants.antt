use Rattle.std.proofs.Common.{◌≡◌, map, take}
use Rattle.mr_sessions.specs.steps.Destinations.{slot_destination}
use Rattle.mr_sessions.proofs.destinations.went_to.Given as goal

-- those before went there
abbrev pub invariant-loop-place : goal.invariant-loop-place
invariant-loop-place l = map slot_destination (take l.place l.slots) ≡ take l.place l.destinations
