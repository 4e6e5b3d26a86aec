use Rattle.std.proofs.Common.{◌≡◌, length}
use Rattle.mr_watch.specs.Lines.{value_of}
use Rattle.mr_watch.proofs.lines.value_of.Given as goal

-- what is left has the value
abbrev pub invariant-loop-line : goal.invariant-loop-line
invariant-loop-line l = value_of l.head l.rest ≡ value_of l.head l.bytes

abbrev pub decreases-loop-line : goal.decreases-loop-line
decreases-loop-line l = length l.rest
