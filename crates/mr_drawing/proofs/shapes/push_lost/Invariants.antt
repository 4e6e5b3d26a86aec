use Rattle.std.proofs.Common.{◌≡◌, ◌++◌, drop}
use Rattle.mr_drawing.specs.Shapes.{lost_from}
use Rattle.mr_drawing.proofs.shapes.push_lost.Given as goal

-- the lost legs so far and those that are left are all
abbrev pub invariant-loop-message : goal.invariant-loop-message
invariant-loop-message l =
    l.shapes.items ++ lost_from l.steps l.column l.issue l.message (drop l.message l.targets)
    ≡ l.initial.shapes.items ++ lost_from l.steps l.column l.issue 0 l.targets
