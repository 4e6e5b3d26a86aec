use Rattle.std.proofs.Common.{ap, ◌∙◌, map, vec_len, arith}
use Rattle.std.proofs.lemmas.List.{take_all}
use Rattle.mr_fleet.proofs.TurnLemmas.{grown}
use Rattle.mr_fleet.proofs.room.rooms_for.Goals as goal

pub loop-proxy-preserved : goal.loop-proxy-preserved
loop-proxy-preserved g c =
    let i = c.loop-proxy.invariant in
    record {
      count = omega (arith, i.count, c.in_ok-push.ensures.len);
      limits = grown _ _ _ _ _ _ _ _ c.loop-proxy-test.true c.in_ok-push.ensures.items c.proxy-item.is (c.in_ok-new.ensures ∙ c.len.ensures) i.limits;
    }

pub returns-clause-limits : goal.returns-clause-limits
returns-clause-limits g c =
    c.loop-proxy.invariant.limits ∙ ap (map (λ proxy. vec_len proxy.clients)) (take_all c.loop-proxy.proxy-index c.args.proxies.now c.loop-proxy-test.false)
