use Rattle.std.proofs.Common.{◌≡◌, map, fold, drop}
use Rattle.mr_proxy.specs.Slots.{reply_of_slot}
use Rattle.mr_counting.specs.ProxyCounts.{key_counted}
use Rattle.mr_counting.proofs.answer_counts.AnswerCounts.add_keys.Given as goal

-- the keys so far are counted
abbrev pub invariant-loop-slot : goal.invariant-loop-slot
invariant-loop-slot l =
    fold key_counted l.self (map reply_of_slot (drop l.slot-index l.slots)) ≡ fold key_counted l.initial.self (map reply_of_slot l.slots)
