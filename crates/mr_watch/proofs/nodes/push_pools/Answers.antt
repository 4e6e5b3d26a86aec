use Rattle.mr_watch.proofs.NodeLemmas.{pools_text-more}
use Rattle.mr_watch.proofs.nodes.push_pools.Goals as goal

pub loop-pool-preserved : goal.loop-pool-preserved
loop-pool-preserved c =
    pools_text-more c.args.nodes.now c.loop-pool.pool c.args.text.now.items c.loop-pool.text.items c.push_pool.new.text.items
    c.loop-pool.invariant c.in_ok-push_pool.ensures
