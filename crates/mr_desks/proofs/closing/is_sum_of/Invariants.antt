use Rattle.std.proofs.Common.{◌≡◌, ◌+◌, drop, sum}
use Rattle.mr_desks.proofs.closing.is_sum_of.Given as goal

-- what is left is for the shares that follow
abbrev pub invariant-loop-share : goal.invariant-loop-share
invariant-loop-share l = l.left + sum l.shares ≡ l.count + sum (drop l.share-index l.shares)
