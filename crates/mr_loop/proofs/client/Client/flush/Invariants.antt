use Rattle.std.proofs.Common.{◌≡◌, length}
use Rattle.mr_loop.specs.Turns.{flushed}
use Rattle.mr_loop.proofs.client.Client.flush.Given as goal

-- what is told so far and what is left come to all that is to be told, and the core stays as it is
abbrev pub invariant-turn : goal.invariant-turn
invariant-turn l = (flushed l.self ≡ flushed l.fn.self) × (l.core ≡ l.fn.core)

abbrev pub decreases-turn : goal.decreases-turn
decreases-turn l = length l.self.turns
