-- What connections are accepted from, as contracts see it, and the service of its connections.
use Rattle.std.specs.Prelude.{◌≡◌, ℕ, ◌+◌, ◌≤◌}

-- what connections are accepted from
pub record ListenerView : Type 0 where
  -- how many connections were accepted
  pub accepted : ℕ
  -- how often none could be accepted
  pub failures : ℕ

-- one connection more was accepted
abbrev pub accepted_one : ListenerView → ListenerView
accepted_one l = record l { accepted = l.accepted + 1 }

-- once more none could be accepted
abbrev pub failed_once : ListenerView → ListenerView
failed_once l = record l { failures = l.failures + 1 }

-- So many connections were asked for, no more and no fewer. So many of those that were accepted have this said of them.
pub record AreAccepted (clients : ℕ) (old : ListenerView) (some : ℕ) (new : ListenerView) : Type 0 where
  pub asked : new.accepted + new.failures ≡ old.accepted + old.failures + clients
  pub steady : old.failures ≤ new.failures
  pub among : old.accepted + some ≤ new.accepted

-- So many connections were asked for, no more and no fewer. So many tickets are left of one for each.
pub record AsksFor (clients : ℕ) (old : ListenerView) (left : ℕ) (new : ListenerView) : Type 0 where
  pub asked : new.accepted + new.failures ≡ old.accepted + old.failures + clients
  pub steady : old.failures ≤ new.failures
  pub tickets : left + new.accepted ≡ old.accepted + clients
