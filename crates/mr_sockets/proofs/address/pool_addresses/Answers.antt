use Rattle.std.proofs.Common.{ℕ, List, subst}
use Rattle.mr_sockets.specs.Address.{GivesNodeAddress}
use Rattle.mr_sockets.proofs.NodeLemmas.{one_more_given}
use Rattle.mr_sockets.proofs.address.pool_addresses.Goals as goal

pub loop-name-preserved : goal.loop-name-preserved
loop-name-preserved c =
    let P : List ℕ → Type 0 = λ name. GivesNodeAddress name c.node_address.result in
    one_more_given c.args.pool.now c.names-name-items.result.now c.loop-name.name-index c.name-item.result c.loop-name.addresses.items
    c.push.new.self.items c.node_address.result c.loop-name.invariant (subst P c.as_str.ensures c.node_address.ensures)
    c.in_ok-push.ensures.items c.name-item.is c.names-name-items.ensures.names c.loop-name-test.true
