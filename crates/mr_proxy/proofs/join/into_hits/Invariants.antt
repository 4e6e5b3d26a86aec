use Rattle.std.proofs.Common.{◌≡◌, ◌+◌, ◌≤◌, ◌++◌, map, length, vec_len, vec_capacity}
use Rattle.std.specs.Vec.Iter.{into_iter_items}
use Rattle.mr_join.specs.Join.{hits_of}
use Rattle.mr_proxy.specs.Slots.{reply_of_slot}
use Rattle.mr_proxy.proofs.join.into_hits.Given as goal

-- the hits so far and those of the keys that are left are all, and have room
abbrev pub invariant-loop-key : goal.invariant-loop-key
invariant-loop-key l =
    (goal.iterator-loop-key).can_next l.key-iterator ×
    (goal.iterator-loop-key).is_finite l.key-iterator ×
    (hits_of l.fn.keys.items (map reply_of_slot l.fn.slots.items)
    ≡ l.items.items ++ hits_of (into_iter_items l.key-iterator) (map reply_of_slot (into_iter_items l.slots))) ×
    (vec_len l.items + length (into_iter_items l.key-iterator) ≤ vec_capacity l.items) ×
    (vec_len l.items + length (into_iter_items l.key-iterator) ≤ vec_len l.fn.keys)
