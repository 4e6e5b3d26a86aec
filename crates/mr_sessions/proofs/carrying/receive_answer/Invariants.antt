use Rattle.std.proofs.Common.{◌≡◌, ◌+◌, ◌≤◌}
use Rattle.mr_sessions.specs.steps.Carrying.{IsSteady}
use Rattle.mr_sessions.proofs.carrying.receive_answer.Given as goal

-- nothing was lost so far, and each leg that isn't out any more came back
abbrev pub invariant-loop-legs_out : goal.invariant-loop-legs_out
invariant-loop-legs_out g l = record {
  steady : IsSteady (g.L.Carriers.told l.initial.carriers) (g.L.Carriers.told l.carriers);
  few : l.legs_out ≤ l.initial.legs_out;
  came : (g.L.Carriers.told l.carriers).brought + l.legs_out ≡ (g.L.Carriers.told l.initial.carriers).brought + l.initial.legs_out;
}

abbrev pub decreases-loop-legs_out : goal.decreases-loop-legs_out
decreases-loop-legs_out g l = l.legs_out
