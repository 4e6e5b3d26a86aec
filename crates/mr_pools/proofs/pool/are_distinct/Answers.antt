use Rattle.std.proofs.Common.{rules}
use Rattle.mr_pools.proofs.PoolLemmas.{distinct_more}
use Rattle.mr_pools.proofs.pool.are_distinct.Goals as goal

pub loop-index-preserved : goal.loop-index-preserved
loop-index-preserved c =
    distinct_more c.args.names.now c.loop-index.index c.index-names-index.result c.loop-index-test.true
    c.index-names-index.is (search rules) c.loop-index.invariant
