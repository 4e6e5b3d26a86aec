use Rattle.std.specs.Prelude.{◌≡◌, ℕ, ◌+◌, ◌≤◌}
use Rattle.mr_sockets.specs.Listener.{ListenerView}
use Rattle.mr_sockets.proofs.connections.accept_all.Given as goal

-- so many connections were asked for, and there is a ticket for each client that wasn't accepted
pub record SoFar (client clients : ℕ) (old : ListenerView) (left parts : ℕ) (new : ListenerView) : Type 0 where
  pub asked : new.accepted + new.failures ≡ old.accepted + old.failures + client
  pub steady : old.failures ≤ new.failures
  pub tickets : left + new.accepted ≡ old.accepted + clients
  pub same : parts ≡ left

abbrev pub invariant-loop-client : goal.invariant-loop-client
invariant-loop-client g l =
    SoFar l.client l.clients (g.L.Listener.told l.initial.listener) l.left.amount l.left.parts (g.L.Listener.told l.listener)
