use Rattle.std.proofs.Common.{◌≡◌, ◌++◌, drop}
use Rattle.mr_drawing.specs.Over.{told_view}
use Rattle.mr_drawing.specs.Picture.{overs_text}
use Rattle.mr_drawing.proofs.picture.push_overs.Given as goal

-- the shapes so far and those that are left are all
abbrev pub invariant-loop-shape : goal.invariant-loop-shape
invariant-loop-shape l =
    l.text.items ++ overs_text (told_view l.told) l.frame (drop l.shape-index l.shapes)
    ≡ l.initial.text.items ++ overs_text (told_view l.told) l.frame l.shapes
