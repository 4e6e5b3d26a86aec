use Rattle.std.proofs.Common.{◌≡◌, fold, take, []}
use Rattle.mr_world.specs.Setup.{with_routing}
use Rattle.mr_world.proofs.network.making.empty_nodes.Given as goal

-- the routings so far have nodes
abbrev pub invariant-loop-proxy : goal.invariant-loop-proxy
invariant-loop-proxy l = l.nodes ≡ fold (λ nodes proxy. with_routing l.setup.capacity nodes proxy.routing) [] (take l.proxy-index l.setup.proxies)
