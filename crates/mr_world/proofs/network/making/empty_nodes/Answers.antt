use Rattle.std.proofs.Common.{◌≡◌, ◌<◌, ℕ, List, [], length, get_or, take, fold, sym, ap, subst, ◌∙◌, arith}
use Rattle.std.proofs.Math.Seq.{take-length}
use Rattle.std.proofs.lemmas.List.Sums.{fold_more}
use Rattle.mr_world.specs.declared.node.Node.{Node}
use Rattle.mr_world.specs.declared.setup.ProxySetup.{ProxySetup}
use Rattle.mr_world.specs.Setup.{with_routing}
use Rattle.mr_world.proofs.network.making.empty_nodes.Goals as goal

abbrev with_proxy : ℕ → List Node → ProxySetup → List Node
with_proxy capacity nodes proxy = with_routing capacity nodes proxy.routing

pub loop-proxy-preserved : goal.loop-proxy-preserved
loop-proxy-preserved c =
    let capacity = c.args.setup.now.capacity in
    let proxies = c.args.setup.now.proxies in
    let place = c.loop-proxy.proxy-index in
    let with = with_proxy capacity in
    let below = subst (λ (l : List ProxySetup). place < length l) c.proxies-proxy-items.ensures c.loop-proxy-test.true in
    let read = subst (λ (l : List ProxySetup). c.proxy-item.result ≡ get_or l place c.proxy-item.result) c.proxies-proxy-items.ensures c.proxy-item.is in
    c.in_ok-add_routing.ensures ∙ ap (λ n. with_routing n c.loop-proxy.nodes c.proxy-item.result.routing) c.capacity.ensures
    ∙ ap (λ nodes. with nodes c.proxy-item.result) c.loop-proxy.invariant
    ∙ ap (λ proxy. with (fold with [] (take place proxies)) proxy) read
    ∙ sym (fold_more with [] proxies place c.proxy-item.result below)

pub returns : goal.returns
returns c =
    let proxies = c.args.setup.now.proxies in
    let past = c.loop-proxy-test.false in
    let within = c.loop-proxy.auto.proxy-index-end in
    let count = ap length c.proxies-proxy-items.ensures in
    let end : c.loop-proxy.proxy-index ≡ length proxies = omega arith in
    let with = with_proxy c.args.setup.now.capacity in
    c.loop-proxy.invariant ∙ ap (λ n. fold with [] (take n proxies)) end ∙ ap (fold with []) (take-length proxies)
