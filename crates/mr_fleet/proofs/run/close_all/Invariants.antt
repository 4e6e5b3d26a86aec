use Rattle.std.proofs.Common.{◌≡◌, ◌+◌, ◌≤◌, ◌++◌, map, length, vec_len, vec_capacity}
use Rattle.std.specs.Vec.Iter.{into_iter_items}
use Rattle.mr_fleet.proofs.run.close_all.Given as goal

-- the proxies that were closed and those that are left are all, and have room
abbrev pub invariant-loop-desk : goal.invariant-loop-desk
invariant-loop-desk g l = record {
  can_next : (goal.iterator-loop-desk g).can_next l.desk-iterator;
  is_finite : (goal.iterator-loop-desk g).is_finite l.desk-iterator;
  as_many_endings : length (into_iter_items l.endings) ≡ length (into_iter_items l.desk-iterator);
  openings : map (λ end. end.opening.value) l.ends.items ++ into_iter_items l.desk-iterator ≡ l.fn.desks.items;
  clients : map (λ end. vec_len end.ends) l.ends.items ++ map (λ ending. vec_len ending.ends) (into_iter_items l.endings)
      ≡ map (λ ending. vec_len ending.ends) l.fn.endings.items;
  room : vec_len l.ends + length (into_iter_items l.desk-iterator) ≤ vec_capacity l.ends;
}
