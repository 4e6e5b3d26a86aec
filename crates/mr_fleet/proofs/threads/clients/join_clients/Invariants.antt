use Rattle.std.proofs.Common.{◌≡◌, ◌+◌, ◌≤◌, vec_len}
use Rattle.std.specs.Vec.Iter.{into_iter_len}
use Rattle.mr_fleet.proofs.threads.clients.join_clients.Given as goal

-- those that were waited for and those that are left are all, and have room
abbrev pub invariant-loop-one : goal.invariant-loop-one
invariant-loop-one g l =
    (goal.iterator-loop-one g).can_next l.one-iterator ×
    (goal.iterator-loop-one g).is_finite l.one-iterator ×
    (vec_len l.ending.ends + into_iter_len l.one-iterator ≡ vec_len l.fn.started) ×
    (vec_len l.fn.started ≤ l.ending.limit)
