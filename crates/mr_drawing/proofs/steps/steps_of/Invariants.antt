use Rattle.std.proofs.Common.{◌≡◌, ◌++◌, drop}
use Rattle.mr_drawing.specs.Steps.{reach_view, steps_from}
use Rattle.mr_drawing.proofs.steps.steps_of.Given as goal

-- the steps so far and those that are left are all
abbrev pub invariant-loop-place : goal.invariant-loop-place
invariant-loop-place l =
    l.steps.items ++ steps_from (reach_view l.reach) l.notes l.place (drop l.place l.events) ≡ steps_from (reach_view l.reach) l.notes 0 l.events
