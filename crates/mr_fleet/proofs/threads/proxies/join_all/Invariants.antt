use Rattle.std.proofs.Common.{◌≡◌, ◌+◌, ◌≤◌, ◌++◌, map, length, vec_len, vec_capacity}
use Rattle.std.specs.Vec.Iter.{into_iter_items}
use Rattle.mr_fleet.proofs.threads.proxies.join_all.Given as goal

-- the proxies that were waited for and those that are left are all, and have room
abbrev pub invariant-loop-one : goal.invariant-loop-one
invariant-loop-one g l = record {
  can_next : (goal.iterator-loop-one g).can_next l.one-iterator;
  is_finite : (goal.iterator-loop-one g).is_finite l.one-iterator;
  clients : map (λ ending. vec_len ending.ends) l.endings.items ++ map (λ one. vec_len one.started) (into_iter_items l.one-iterator)
      ≡ map (λ one. vec_len one.started) l.fn.underway.items;
  count : vec_len l.endings + length (into_iter_items l.one-iterator) ≡ vec_len l.fn.underway;
  room : vec_len l.fn.underway ≤ vec_capacity l.endings;
}
