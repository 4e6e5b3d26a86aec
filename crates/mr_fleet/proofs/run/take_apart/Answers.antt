use Rattle.std.proofs.Common.{◌≡◌, refl, sym, ap, ◌∙◌, map, length, arith}
use Rattle.std.specs.Vec.Iter.{into_iter_items}
use Rattle.mr_fleet.proofs.TurnLemmas.{fewer, moved, moved_map, all_moved_map, firsts, others}
use Rattle.mr_fleet.proofs.run.take_apart.Goals as goal
use Rattle.mr_fleet.proofs.run.take_apart.Goals.{in-None, in-Some+in_default}

pub push_reserved-requires : goal.push_reserved-requires
push_reserved-requires g c =
    let i = c.loop-proxy.invariant in
    let less = fewer _ _ _ c.in-Some.ensures.steps.0 in
    omega (arith, i.as_many_desks, i.room_for_desks)

pub invariant_of-push_reserved : goal.invariant_of-push_reserved
invariant_of-push_reserved g c =
    record { fits = sym (firsts _ _ _ _ _ _ _ _ c.in-Some-next.ensures.items c.in-Some.ensures.steps.0 c.loop-proxy.invariant.limits) }

pub push_reserved-requires-in-loop-proxy : goal.push_reserved-requires-in-loop-proxy
push_reserved-requires-in-loop-proxy g c =
    let i = c.loop-proxy.invariant in
    let less = fewer _ _ _ c.in-Some.ensures.steps.0 in
    omega (arith, i.as_many_prepared, i.room_to_prepare)

pub loop-proxy-preserved : goal.loop-proxy-preserved
loop-proxy-preserved g c =
    let i = c.loop-proxy.invariant in
    let next = c.in-Some.ensures.steps.0 in
    let room = c.in-Some-next.ensures.items in
    let less = fewer _ _ _ next in
    let less_rooms = fewer _ _ _ room in
    record {
      can_next = tt;
      is_finite = tt;
      as_many_rooms = omega (arith, i.as_many_rooms);
      limits = others _ _ _ _ _ _ _ _ room next i.limits;
      desks = moved _ _ _ _ _ _ c.push_reserved.ensures.items (ap (map (λ proxy. proxy.desk)) next) i.desks;
      clients = moved_map _ _ _ _ _ _ _ _ _ c.push_reserved-in-loop-proxy.ensures.items next refl i.clients;
      as_many_desks = omega (arith, i.as_many_desks, c.push_reserved.ensures.len);
      as_many_prepared = omega (arith, i.as_many_prepared, c.push_reserved-in-loop-proxy.ensures.len);
      room_for_desks = omega (arith, i.room_for_desks, c.push_reserved.ensures.capacity);
      room_to_prepare = omega (arith, i.room_to_prepare, c.push_reserved-in-loop-proxy.ensures.capacity);
    }

-- no proxy is left
none_left : (g : _) (c : goal.After-drop-rooms g) → length (into_iter_items c.loop-proxy.proxy-iterator) ≡ 0
none_left g c = elim c.match-next.branch [
  | in-None w ↦ sym c.loop-proxy.proxy-iterator.rest.ok.0 ∙ w.in-None.ensures.steps.0
  | in-Some+in_default w ↦ sym c.loop-proxy.invariant.as_many_rooms ∙ sym c.loop-proxy.rooms.rest.ok.0 ∙ w.in_default.ensures.cases.0
]

pub returns-clause-count : goal.returns-clause-count
returns-clause-count g c = omega (arith, c.loop-proxy.invariant.as_many_desks, c.loop-proxy.invariant.as_many_prepared)

pub returns-clause-within : goal.returns-clause-within
returns-clause-within g c = omega (arith, c.loop-proxy.invariant.as_many_prepared)

pub returns-clause-desks : goal.returns-clause-desks
returns-clause-desks g c = all_moved_map _ _ _ _ (none_left g c) c.loop-proxy.invariant.desks

pub returns-clause-clients : goal.returns-clause-clients
returns-clause-clients g c = all_moved_map _ _ _ _ (none_left g c) c.loop-proxy.invariant.clients
