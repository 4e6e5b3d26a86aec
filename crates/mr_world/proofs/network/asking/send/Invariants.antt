use Rattle.std.proofs.Common.{◌≡◌, ◌+◌, ◌≤◌, ◌++◌, map, length, vec_len, vec_capacity, All}
use Rattle.std.specs.Vec.Iter.{into_iter_items}
use Rattle.mr_world.specs.Network.{HasNumber, message_by}
use Rattle.mr_world.proofs.network.asking.send.Given as goal

-- the messages so far and those of the legs that are left are all, and have room
abbrev pub invariant-loop-leg : goal.invariant-loop-leg
invariant-loop-leg l =
    (goal.iterator-loop-leg).can_next l.leg-iterator ×
    (goal.iterator-loop-leg).is_finite l.leg-iterator ×
    (l.fn.sent.items ++ map (message_by l.numbers) l.fn.legs.items ≡ l.sent.items ++ map (message_by l.numbers) (into_iter_items l.leg-iterator)) ×
    (vec_len l.sent + length (into_iter_items l.leg-iterator) ≤ vec_capacity l.sent) ×
    All (HasNumber l.numbers) (into_iter_items l.leg-iterator)
