use Rattle.std.proofs.Common.{arith}
use Rattle.mr_log.proofs.NodeLemmas.{node_found, node_later}
use Rattle.mr_log.proofs.nodes.node_at.Goals as goal

pub returns-then-left-len : goal.returns-then-left-len
returns-then-left-len c =
    rw c.as_str-name.ensures
    (node_found c.args.pools.now c.args.number c.loop-index.left c.loop-index.index c.index-pools-index.result c.name.result.now
    c.loop-index.invariant c.loop-index-test.true c.index-pools-index.is c.name.ensures (omega (arith, c.len.ensures.length, c.if-left-len.true)))

pub loop-index-preserved : goal.loop-index-preserved
loop-index-preserved c =
    node_later c.args.pools.now c.args.number c.loop-index.left c.loop-index.index c.len-left.result c.index-pools-index.result
    c.loop-index.invariant c.loop-index-test.true c.index-pools-index.is c.len-left.ensures.length (omega (arith, c.len.ensures.length, c.if-left-len.false))
