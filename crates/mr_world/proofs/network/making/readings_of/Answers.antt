use Rattle.std.proofs.Common.{ℕ, [], ◌∷◌, ◌++◌, take, map, sym, ap, ◌∙◌}
use Rattle.mr_world.specs.declared.setup.ProxySetup.{ProxySetup}
use Rattle.mr_world.proofs.NetworkLemmas.{map_more}
use Rattle.mr_world.proofs.network.making.readings_of.Goals as goal

abbrev reading : ProxySetup → ℕ
reading proxy = proxy.reading

pub loop-proxy-preserved : goal.loop-proxy-preserved
loop-proxy-preserved c =
    let proxies = c.args.proxies.now in
    let place = c.loop-proxy.proxy-index in
    let p = c.proxy-item.result in
    c.in_ok-push.ensures.items ∙ ap (λ l. l ++ reading p ∷ []) c.loop-proxy.invariant
    ∙ ap (λ (q : ProxySetup). map reading (take place proxies) ++ reading q ∷ []) c.proxy-item.is
    ∙ sym (map_more reading proxies place p c.loop-proxy-test.true)
