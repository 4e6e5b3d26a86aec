use Rattle.std.proofs.Common.{◌≡◌, ◌+◌, ◌<◌, ◌^◌, ◌++◌, length, All}
use Rattle.std.specs.Vec.Iter.{into_iter_items}
use Rattle.mr_proxy.specs.Sound.{IsSound}
use Rattle.mr_world.specs.Headline.{IsPlan}
use Rattle.mr_world.specs.Setup.{ChainsMatch, proxies_from}
use Rattle.mr_world.proofs.network.making.cores_of.Given as goal

-- the proxies so far and those that are left are all
abbrev pub invariant-loop-proxy : goal.invariant-loop-proxy
invariant-loop-proxy l =
    (goal.iterator-loop-proxy).can_next l.proxy-iterator ×
    (goal.iterator-loop-proxy).is_finite l.proxy-iterator ×
    (l.cores.items ++ proxies_from l.number (into_iter_items l.proxy-iterator) ≡ proxies_from 0 l.fn.proxies.items) ×
    All IsSound l.cores.items ×
    All (λ core. IsPlan core.routing core.schedule) l.cores.items ×
    (l.number + length (into_iter_items l.proxy-iterator) < 2 ^ 32) ×
    ChainsMatch (into_iter_items l.proxy-iterator)
