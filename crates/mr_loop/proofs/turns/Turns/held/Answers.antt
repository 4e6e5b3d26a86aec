use Rattle.std.proofs.Common.{arith}
use Rattle.mr_loop.proofs.HeldLemmas.{held_small}
use Rattle.mr_loop.proofs.turns.Turns.held.Goals as goal

pub returns-clause-small : goal.returns-clause-small
returns-clause-small c = omega (arith, held_small c.self.inside.queue.items, c.self.invariant)
