use Rattle.std.proofs.Common.{◌≡◌, take}
use Rattle.mr_pools.proofs.routing.are_same.Given as goal

-- the pools so far are the same
abbrev pub invariant-loop-number : goal.invariant-loop-number
invariant-loop-number l = take l.number l.ours ≡ take l.number l.theirs
