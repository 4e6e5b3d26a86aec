use Rattle.std.proofs.Common.{◌≡◌, ◌+◌, ◌≤◌, ◌++◌, map, length, vec_len, vec_capacity}
use Rattle.std.specs.Vec.Iter.{into_iter_items}
use Rattle.mr_fleet.proofs.threads.proxies.start_all.Given as goal

-- the proxies that were started and those that are left are all, and have room
abbrev pub invariant-loop-one : goal.invariant-loop-one
invariant-loop-one g l = record {
  can_next : (goal.iterator-loop-one g).can_next l.one-iterator;
  is_finite : (goal.iterator-loop-one g).is_finite l.one-iterator;
  clients : map (λ one. vec_len one.started) l.underway.items ++ map (λ one. vec_len one.clients) (into_iter_items l.one-iterator)
      ≡ map (λ one. vec_len one.clients) l.fn.prepared.items;
  count : vec_len l.underway + length (into_iter_items l.one-iterator) ≡ vec_len l.fn.prepared;
  room : vec_len l.fn.prepared ≤ vec_capacity l.underway;
  desks : l.index + length (into_iter_items l.one-iterator) ≡ length l.desks;
}
