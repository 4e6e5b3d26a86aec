use Rattle.mr_proxy.proofs.JoinLemmas.{IsWorstSoFar}
use Rattle.mr_proxy.proofs.join.place_of_worst.Given as goal

-- the worst so far is the worst of the first leg and of those that were looked at
abbrev pub invariant-loop-place : goal.invariant-loop-place
invariant-loop-place l = IsWorstSoFar l.slots l.place l.worst
