use Rattle.std.proofs.Common.{◌<◌, ◌^◌, length, arith}
use Rattle.mr_loop.proofs.HeldLemmas.{held_fits}
use Rattle.mr_loop.proofs.turns.Turns.set.Goals as goal

pub overflow_add-self : goal.overflow_add-self
overflow_add-self c =
    let short : length c.self.inside.queue.items < 2 ^ 64 = omega arith in
    omega (arith, held_fits c.self.inside.queue.items c.args.turn short, c.self.invariant, c.held-more.ensures)
