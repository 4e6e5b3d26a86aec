use Rattle.std.proofs.Common.{List, subst, sym}
use Rattle.std.specs.Prelude.{Option}
use Rattle.std.specs.declared.net.socket_addr.SocketAddrV4.{SocketAddrV4}
use Rattle.mr_sockets.specs.Address.{GivesNodeAddresses}
use Rattle.mr_sockets.proofs.NodeLemmas.{one_more_pool}
use Rattle.mr_sockets.proofs.address.node_addresses.Goals as goal

pub loop-pool-preserved : goal.loop-pool-preserved
loop-pool-preserved c =
    let P : List (Option SocketAddrV4) → Type 0 = λ more. GivesNodeAddresses c.pool-item.result more in
    one_more_pool c.pools-pool-items.result.now c.loop-pool.pool-index c.pool-item.result c.loop-pool.addresses.items
    c.extend_from_slice.new.self.items c.as_slice.result.now c.loop-pool.invariant
    (subst P (sym c.as_slice.ensures.value) c.in_ok-more.ensures) c.in_ok-extend_from_slice.ensures.items c.pool-item.is
    c.loop-pool-test.true
