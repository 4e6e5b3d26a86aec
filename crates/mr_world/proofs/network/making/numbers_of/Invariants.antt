use Rattle.std.proofs.Common.{◌≡◌, map, take}
use Rattle.mr_world.specs.Tracked.{numbers_in}
use Rattle.mr_world.proofs.network.making.numbers_of.Given as goal

-- the proxies so far have numbers
abbrev pub invariant-loop-proxy : goal.invariant-loop-proxy
invariant-loop-proxy l = l.numbers.items ≡ map (numbers_in l.nodes) (take l.proxy-index l.proxies.items)
