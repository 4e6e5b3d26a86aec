use Rattle.std.proofs.Common.{◌≡◌, ◌+◌, drop}
use Rattle.mr_drawing.specs.Labels.{fitting}
use Rattle.mr_drawing.proofs.labels.fitting.Given as goal

-- so many fit so far, and as many more as fit into what is left
abbrev pub invariant-loop-count : goal.invariant-loop-count
invariant-loop-count l = l.count + fitting l.left (drop l.count l.bytes) ≡ fitting l.room l.bytes
