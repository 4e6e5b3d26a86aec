use Rattle.std.proofs.Common.{◌≡◌, length, Some}
use Rattle.mr_watch.specs.Lines.{lines_of, sum_from, sum_of}
use Rattle.mr_watch.proofs.lines.sum_of.Given as goal

-- the sum so far and what is left come to the sum
abbrev pub invariant-loop-line : goal.invariant-loop-line
invariant-loop-line l = sum_from l.head (Some l.sum) (lines_of l.rest) ≡ sum_of l.head l.bytes

abbrev pub decreases-loop-line : goal.decreases-loop-line
decreases-loop-line l = length l.rest
