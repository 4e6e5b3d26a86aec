use Rattle.std.proofs.Common.{refl}
use Rattle.mr_desks.proofs.DirectLemmas.{place_carries, place_kept, place_lacks, pool_lacks}
use Rattle.mr_desks.proofs.direct_carriers.carry_at.Goals as goal

pub returns-in-Some-clause-carried : goal.returns-in-Some-clause-carried
returns-in-Some-clause-carried g c =
    place_carries (λ nodes. nodes.items) c.args.pools.now.items c.args.pool c.args.node g.C.Carrier.carries g.C.Carrier.faults (λ carried. carried.back) c.args.leg
    c.in-Some.nodes.now c.carry_to.new.nodes c.carry_to.result (c.in-Some.ensures.item.3.0) c.in-Some.ensures.value c.carry_to.ensures.carried

pub returns-in-Some-clause-back : goal.returns-in-Some-clause-back
returns-in-Some-clause-back g c =
    place_lacks (λ nodes. nodes.items) c.args.pools.now.items c.args.pool c.args.node c.args.leg c.in-Some.nodes.now c.carry_to.result
    (c.in-Some.ensures.item.3.0) c.in-Some.ensures.value c.carry_to.ensures.back

pub returns-in-Some-clause-unchanged : goal.returns-in-Some-clause-unchanged
returns-in-Some-clause-unchanged g c =
    place_kept (λ nodes. nodes.items) c.args.pools.now.items c.args.pool c.args.node c.in-Some.nodes.now c.carry_to.new.nodes c.carry_to.result
    c.in-Some.ensures.value c.carry_to.ensures.unchanged

pub returns-in-None-clause-back : goal.returns-in-None-clause-back
returns-in-None-clause-back g c = (refl, pool_lacks (λ nodes. nodes.items) c.args.pools.now.items c.args.pool c.args.node (c.in-None.ensures.item.3))
