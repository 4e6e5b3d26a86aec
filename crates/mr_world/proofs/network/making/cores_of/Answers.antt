use Rattle.std.proofs.Common.{sym, ap, subst, length, All, arith}
use Rattle.std.proofs.lemmas.List.Elements.{All-push}
use Rattle.std.specs.Vec.Iter.{into_iter_items}
use Rattle.mr_proxy.specs.ProxyView.{ProxyView}
use Rattle.mr_proxy.specs.Sound.{IsSound}
use Rattle.mr_proxy.specs.Sheets.{HaveAsManyHops}
use Rattle.mr_world.specs.declared.setup.ProxySetup.{ProxySetup}
use Rattle.mr_world.specs.Headline.{IsPlan}
use Rattle.mr_world.proofs.NetworkLemmas.{cores_more, all_rest}
use Rattle.mr_world.proofs.network.making.cores_of.Goals as goal

abbrev IsPlanned : ProxyView → Type 0
IsPlanned core = IsPlan core.routing core.schedule

abbrev HasChain : ProxySetup → Type 0
HasChain proxy = HaveAsManyHops proxy.routing proxy.schedule

pub loop-proxy-preserved : goal.loop-proxy-preserved
loop-proxy-preserved c =
    let split = c.in-Some.ensures.steps.0 in
    let kept = c.loop-proxy.invariant in (
      tt,
      tt,
      cores_more c.loop-proxy.number _ c.loop-proxy.cores.items c.push.new.self.items c.core_of.result c.in-Some.proxy (into_iter_items c.loop-proxy.proxy-iterator)
          (into_iter_items c.next.new.self) split c.core_of.ensures.core c.in_ok-push.ensures.items (kept.2),
      subst (All IsSound) (sym c.in_ok-push.ensures.items) (All-push IsSound c.loop-proxy.cores.items c.core_of.result (kept.3) c.core_of.ensures.sound),
      subst (All IsPlanned) (sym c.in_ok-push.ensures.items) (All-push IsPlanned c.loop-proxy.cores.items c.core_of.result (kept.4) c.core_of.ensures.plan),
      (let room = kept.5 in let fewer = ap length split in omega arith),
      all_rest HasChain (into_iter_items c.loop-proxy.proxy-iterator) c.in-Some.proxy (into_iter_items c.next.new.self) split (kept.6),
    )
