use Rattle.std.proofs.Common.{◌≡◌, ◌<◌, List, [], ◌∷◌, ◌++◌, length, take, map, get_or, sym, ap, subst, ◌∙◌, arith}
use Rattle.std.proofs.Math.Seq.{take-length}
use Rattle.mr_pools.specs.Routing.{RoutingView}
use Rattle.mr_proxy.specs.ProxyView.{ProxyView}
use Rattle.mr_world.specs.Positions.{node_number}
use Rattle.mr_world.specs.Tracked.{numbers_in}
use Rattle.mr_world.proofs.NetworkLemmas.{map_more}
use Rattle.mr_world.proofs.network.making.numbers_of.Goals as goal

pub loop-proxy-preserved : goal.loop-proxy-preserved
loop-proxy-preserved c =
    let nodes = c.args.nodes.now in
    let proxies = c.args.proxies.now.items in
    let place = c.loop-proxy.proxy-index in
    let p = c.proxy-item.result in
    let items = c.deref-proxy-items.ensures.value in
    let below = subst (λ (l : List ProxyView). place < length l) items c.loop-proxy-test.true in
    let read = subst (λ (l : List ProxyView). p ≡ get_or l place p) items c.proxy-item.is in
    let numbers = c.in_ok-named.ensures ∙ ap (λ (r : RoutingView). map (λ pool. map (node_number nodes) pool) r.pools) c.routing.ensures in
    c.in_ok-push.ensures.items ∙ ap (λ l. l ++ c.in_ok-named.named ∷ []) c.loop-proxy.invariant
    ∙ ap (λ l. map (numbers_in nodes) (take place proxies) ++ l ∷ []) numbers
    ∙ ap (λ (q : ProxyView). map (numbers_in nodes) (take place proxies) ++ numbers_in nodes q ∷ []) read
    ∙ sym (map_more (numbers_in nodes) proxies place p below)

pub returns : goal.returns
returns c =
    let nodes = c.args.nodes.now in
    let proxies = c.args.proxies.now.items in
    let past = c.loop-proxy-test.false in
    let within = c.loop-proxy.auto.proxy-index-end in
    let count = ap length c.deref-proxy-items.ensures.value in
    let end : c.loop-proxy.proxy-index ≡ length proxies = omega arith in
    c.loop-proxy.invariant ∙ ap (λ n. map (numbers_in nodes) (take n proxies)) end ∙ ap (map (numbers_in nodes)) (take-length proxies)
