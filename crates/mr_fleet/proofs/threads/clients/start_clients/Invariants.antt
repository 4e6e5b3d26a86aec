use Rattle.std.proofs.Common.{◌≡◌, ◌+◌, ◌≤◌, vec_len, vec_capacity}
use Rattle.std.specs.Vec.Iter.{into_iter_len}
use Rattle.mr_fleet.proofs.threads.clients.start_clients.Given as goal

-- those that were started and those that are left are all, and have room
abbrev pub invariant-loop-client : goal.invariant-loop-client
invariant-loop-client g l =
    (goal.iterator-loop-client g).can_next l.client-iterator ×
    (goal.iterator-loop-client g).is_finite l.client-iterator ×
    (vec_len l.started + into_iter_len l.client-iterator ≡ vec_len l.fn.clients) ×
    (vec_len l.fn.clients ≤ vec_capacity l.started)
