use Rattle.std.proofs.Common.{◌≡◌, ◌++◌, drop, map}
use Rattle.mr_drawing.specs.Picture.{lines_text}
use Rattle.mr_drawing.proofs.picture.push_lines.Given as goal

-- the lines so far and those that are left are all
abbrev pub invariant-loop-place : goal.invariant-loop-place
invariant-loop-place l =
    l.text.items ++ lines_text l.place (map (λ line. line.now) (drop l.place l.said)) ≡ l.initial.text.items ++ lines_text 0 (map (λ line. line.now) l.said)
