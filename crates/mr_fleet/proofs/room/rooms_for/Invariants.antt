use Rattle.std.proofs.Common.{◌≡◌, map, take, vec_len}
use Rattle.mr_fleet.proofs.room.rooms_for.Given as goal

-- there is room for each proxy so far
abbrev pub invariant-loop-proxy : goal.invariant-loop-proxy
invariant-loop-proxy g l = record {
  count : vec_len l.rooms ≡ l.proxy-index;
  limits : map (λ room. room.ending.limit) l.rooms.items ≡ map (λ proxy. vec_len proxy.clients) (take l.proxy-index l.proxies);
}
