use Rattle.std.proofs.Common.{◌≡◌, ◌++◌, drop}
use Rattle.mr_drawing.specs.Shapes.{shapes_from}
use Rattle.mr_drawing.proofs.shapes.push_steps.Given as goal

-- the shapes so far and those of the steps that are left are all
abbrev pub invariant-loop-column : goal.invariant-loop-column
invariant-loop-column l =
    l.shapes.items ++ shapes_from l.steps l.targets l.whole l.column (drop l.column l.steps)
    ≡ l.initial.shapes.items ++ shapes_from l.steps l.targets l.whole 0 l.steps
