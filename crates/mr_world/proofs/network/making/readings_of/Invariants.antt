use Rattle.std.proofs.Common.{◌≡◌, map, take}
use Rattle.mr_world.proofs.network.making.readings_of.Given as goal

-- the readings so far
abbrev pub invariant-loop-proxy : goal.invariant-loop-proxy
invariant-loop-proxy l = l.readings.items ≡ map (λ proxy. proxy.reading) (take l.proxy-index l.proxies)
