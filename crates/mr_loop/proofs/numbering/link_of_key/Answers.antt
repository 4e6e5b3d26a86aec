use Rattle.std.proofs.Common.{arith}
use Rattle.mr_loop.proofs.numbering.link_of_key.Goals as goal

pub overflow_add-result : goal.overflow_add-result
overflow_add-result c =
    omega (arith, c.nodes_before.ensures.few, c.place.ensures.within, (c.hash-known.ensures.routing.sized c.args.pool (omega arith)).not_many)
