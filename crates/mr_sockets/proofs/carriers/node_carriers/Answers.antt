use Rattle.std.proofs.Common.{map}
use Rattle.mr_sockets.specs.SocketCarrier.{fresh_carrier}
use Rattle.mr_sockets.proofs.CarrierLemmas.{one_more_seen}
use Rattle.mr_sockets.proofs.carriers.node_carriers.Goals as goal

pub loop-pool-preserved : goal.loop-pool-preserved
loop-pool-preserved g c =
    one_more_seen c.loop-pool.pools.items c.push.new.self.items (λ carriers. carriers.items) (map (fresh_carrier c.args.turns))
    c.pools-pool-items.result.now c.loop-pool.pool-index c.in_ok-pool_carriers.field-0 c.pool-item.result c.loop-pool.invariant
    c.in_ok-push.ensures.items c.in_ok-pool_carriers.ensures c.pool-item.is c.loop-pool-test.true
