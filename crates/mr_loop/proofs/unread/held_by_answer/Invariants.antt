use Rattle.std.proofs.Common.{◌≡◌, ◌-◌, ◌^◌, min, sum_by, take}
use Rattle.mr_loop.specs.Held.{held_by_slot}
use Rattle.mr_loop.proofs.unread.held_by_answer.Given as goal

-- what the legs so far add, as far as 64 bits count
abbrev pub invariant-loop-slot : goal.invariant-loop-slot
invariant-loop-slot l = l.held ≡ min (sum_by held_by_slot (take l.slot-index l.slot-items)) (2 ^ 64 - 1)
