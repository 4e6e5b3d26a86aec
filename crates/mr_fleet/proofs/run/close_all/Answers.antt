use Rattle.std.proofs.Common.{◌≡◌, ◌∷◌, sym, ap, ◌∙◌, length, arith}
use Rattle.std.specs.Vec.Iter.{into_iter_items}
use Rattle.mr_fleet.proofs.TurnLemmas.{fewer, moved_as, moved_map, all_moved, all_moved_map}
use Rattle.mr_fleet.proofs.run.close_all.Goals as goal
use Rattle.mr_fleet.proofs.run.close_all.Goals.{in-None, in-Some+in_default}

pub push_reserved-requires : goal.push_reserved-requires
push_reserved-requires g c =
    let less = fewer _ _ _ c.in-Some.ensures.steps.0 in
    omega (arith, c.loop-desk.invariant.room)

pub loop-desk-preserved : goal.loop-desk-preserved
loop-desk-preserved g c =
    let i = c.loop-desk.invariant in
    let next = c.in-Some.ensures.steps.0 in
    let ending = c.in-Some-next.ensures.items in
    let less = fewer _ _ _ next in
    let less_endings = fewer _ _ _ ending in
    record {
      can_next = tt;
      is_finite = tt;
      as_many_endings = omega (arith, i.as_many_endings);
      openings = moved_as _ _ _ _ _ _ _ c.push_reserved.ensures.items (next ∙ ap (λ desk. desk ∷ into_iter_items c.next.new.self) (sym c.of.ensures.opening)) i.openings;
      clients = moved_map _ _ _ _ _ _ _ _ _ c.push_reserved.ensures.items ending c.of.ensures.ends i.clients;
      room = omega (arith, i.room, c.push_reserved.ensures.len, c.push_reserved.ensures.capacity);
    }

-- no proxy is left
none_left : (g : _) (c : goal.After-drop-endings g) → length (into_iter_items c.loop-desk.desk-iterator) ≡ 0
none_left g c = elim c.match-next.branch [
  | in-None w ↦ sym c.loop-desk.desk-iterator.rest.ok.0 ∙ w.in-None.ensures.steps.0
  | in-Some+in_default w ↦ sym c.loop-desk.invariant.as_many_endings ∙ sym c.loop-desk.endings.rest.ok.0 ∙ w.in_default.ensures.cases.0
]

pub returns-clause-openings : goal.returns-clause-openings
returns-clause-openings g c = all_moved _ _ _ (none_left g c) c.loop-desk.invariant.openings

pub returns-clause-clients : goal.returns-clause-clients
returns-clause-clients g c = all_moved_map _ _ _ _ (c.loop-desk.invariant.as_many_endings ∙ none_left g c) c.loop-desk.invariant.clients
