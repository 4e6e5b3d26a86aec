use Rattle.std.proofs.Common.{◌≡◌, [], drop, fold}
use Rattle.mr_drawing.specs.Names.{with_routing}
use Rattle.mr_drawing.proofs.names.node_names.Given as goal

-- the routings so far are added, and the others are left
abbrev pub invariant-loop-proxy : goal.invariant-loop-proxy
invariant-loop-proxy l =
    fold (λ names proxy. with_routing names proxy.routing) l.names.items (drop l.proxy-index l.proxies)
    ≡ fold (λ names proxy. with_routing names proxy.routing) [] l.proxies
