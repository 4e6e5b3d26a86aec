use Rattle.std.proofs.Common.{◌≡◌, map}
use Rattle.std.specs.List.{range_with_len}
use Rattle.mr_flights.specs.Scene.{proxy_of}
use Rattle.mr_flights.proofs.plans.addresses_of.Given as goal

-- those of the clients so far
abbrev pub invariant-loop-client : goal.invariant-loop-client
invariant-loop-client l = map (λ address. address.now) l.addresses.items ≡ map (proxy_of (map (λ proxy. proxy.now) l.proxies)) (range_with_len 0 l.client)
