use Rattle.std.proofs.Common.{◌≡◌, ◌+◌, ◌≤◌, ◌++◌, map, length, vec_len, vec_capacity}
use Rattle.std.specs.Vec.Iter.{into_iter_items}
use Rattle.mr_fleet.proofs.run.take_apart.Given as goal

-- the proxies that were taken out and those that are left are all, and have room
abbrev pub invariant-loop-proxy : goal.invariant-loop-proxy
invariant-loop-proxy g l = record {
  can_next : (goal.iterator-loop-proxy g).can_next l.proxy-iterator;
  is_finite : (goal.iterator-loop-proxy g).is_finite l.proxy-iterator;
  as_many_rooms : length (into_iter_items l.rooms) ≡ length (into_iter_items l.proxy-iterator);
  limits : map (λ room. room.ending.limit) (into_iter_items l.rooms) ≡ map (λ proxy. vec_len proxy.clients) (into_iter_items l.proxy-iterator);
  desks : l.desks.items ++ map (λ proxy. proxy.desk) (into_iter_items l.proxy-iterator) ≡ map (λ proxy. proxy.desk) l.fn.proxies.items;
  clients : map (λ one. vec_len one.clients) l.prepared.items ++ map (λ proxy. vec_len proxy.clients) (into_iter_items l.proxy-iterator)
      ≡ map (λ proxy. vec_len proxy.clients) l.fn.proxies.items;
  as_many_desks : vec_len l.desks + length (into_iter_items l.proxy-iterator) ≡ vec_len l.fn.proxies;
  as_many_prepared : vec_len l.prepared + length (into_iter_items l.proxy-iterator) ≡ vec_len l.fn.proxies;
  room_for_desks : vec_len l.fn.proxies ≤ vec_capacity l.desks;
  room_to_prepare : vec_len l.fn.proxies ≤ vec_capacity l.prepared;
}
