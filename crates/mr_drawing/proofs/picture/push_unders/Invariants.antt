use Rattle.std.proofs.Common.{◌≡◌, ◌++◌, drop}
use Rattle.mr_drawing.specs.Picture.{unders_text}
use Rattle.mr_drawing.proofs.picture.push_unders.Given as goal

-- the shapes so far and those that are left are all
abbrev pub invariant-loop-shape : goal.invariant-loop-shape
invariant-loop-shape l =
    l.text.items ++ unders_text l.frame (drop l.shape-index l.shapes) ≡ l.initial.text.items ++ unders_text l.frame l.shapes
