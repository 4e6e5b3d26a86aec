use Rattle.std.proofs.Common.{sym, ◌∙◌, arith}
use Rattle.mr_fleet.proofs.TurnLemmas.{fewer, moved_map, all_moved_map}
use Rattle.mr_fleet.proofs.threads.proxies.start_all.Goals as goal

pub bounds-desks-index : goal.bounds-desks-index
bounds-desks-index g c =
    let less = fewer _ _ _ c.in-Some.ensures.steps.0 in
    omega (arith, c.loop-one.invariant.desks)

pub push_reserved-requires : goal.push_reserved-requires
push_reserved-requires g c =
    let less = fewer _ _ _ c.in-Some.ensures.steps.0 in
    omega (arith, c.loop-one.invariant.count, c.loop-one.invariant.room)

pub loop-one-preserved : goal.loop-one-preserved
loop-one-preserved g c =
    let i = c.loop-one.invariant in
    let next = c.in-Some.ensures.steps.0 in
    let less = fewer _ _ _ next in
    record {
      can_next = tt;
      is_finite = tt;
      clients = moved_map _ _ _ _ _ _ _ _ _ c.push_reserved.ensures.items next c.start.ensures i.clients;
      count = omega (arith, i.count, c.push_reserved.ensures.len);
      room = omega (arith, i.room, c.push_reserved.ensures.capacity);
      desks = omega (arith, i.desks);
    }

pub returns-clause-clients : goal.returns-clause-clients
returns-clause-clients g c =
    all_moved_map _ _ _ _ (sym c.loop-one.one-iterator.rest.ok.0 ∙ c.in-None.ensures.steps.0) c.loop-one.invariant.clients
