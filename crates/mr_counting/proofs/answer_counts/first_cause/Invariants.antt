use Rattle.std.proofs.Common.{◌≡◌, map, drop}
use Rattle.mr_join.specs.Join.{first_cause}
use Rattle.mr_proxy.specs.Slots.{reply_of_slot}
use Rattle.mr_counting.proofs.answer_counts.first_cause.Given as goal

-- none of the legs so far failed
abbrev pub invariant-loop-slot : goal.invariant-loop-slot
invariant-loop-slot l = first_cause (map reply_of_slot (drop l.slot-index l.slots)) ≡ first_cause (map reply_of_slot l.slots)
