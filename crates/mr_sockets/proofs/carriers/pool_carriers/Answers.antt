use Rattle.mr_sockets.specs.SocketCarrier.{fresh_carrier}
use Rattle.mr_sockets.proofs.CarrierLemmas.{one_more}
use Rattle.mr_sockets.proofs.carriers.pool_carriers.Goals as goal

pub loop-name-preserved : goal.loop-name-preserved
loop-name-preserved g c =
    one_more (fresh_carrier c.args.turns) c.loop-name.carriers.items c.push.new.self.items c.names-name-items.result.now c.args.pool.now
    c.loop-name.name-index c.in_ok-within.field-0 c.name-item.result c.loop-name.invariant c.in_ok-push.ensures.items c.in_ok-within.ensures c.name-item.is
    c.names-name-items.ensures.names c.loop-name-test.true
