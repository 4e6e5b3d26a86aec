use Rattle.std.proofs.Common.{◌≡◌, map, drop}
use Rattle.std.specs.List.{list_any}
use Rattle.mr_proxy.specs.Slots.{reply_of_slot}
use Rattle.mr_counting.specs.ProxyCounts.{is_not_found}
use Rattle.mr_counting.proofs.answer_counts.misses_one.Given as goal

-- each leg so far found something
abbrev pub invariant-loop-slot : goal.invariant-loop-slot
invariant-loop-slot l =
    list_any is_not_found (map reply_of_slot (drop l.slot-index l.slots)) ≡ list_any is_not_found (map reply_of_slot l.slots)
