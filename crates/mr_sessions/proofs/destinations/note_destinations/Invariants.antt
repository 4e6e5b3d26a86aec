use Rattle.std.proofs.Common.{◌≡◌, ◌≤◌, length, map, take, vec_capacity}
use Rattle.mr_sessions.specs.steps.Destinations.{destination_of}
use Rattle.mr_sessions.proofs.destinations.note_destinations.Given as goal

-- those before are noted, and there is room for all
abbrev pub invariant-loop-leg : goal.invariant-loop-leg
invariant-loop-leg l = record {
  noted : l.destinations.items ≡ map destination_of (take l.leg-index l.legs);
  room : length l.legs ≤ vec_capacity l.destinations;
}
