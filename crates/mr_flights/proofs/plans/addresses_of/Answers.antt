use Rattle.std.proofs.Common.{map}
use Rattle.mr_flights.specs.Scene.{proxy_of}
use Rattle.mr_flights.proofs.PlansLemmas.{named_more}
use Rattle.mr_flights.proofs.plans.addresses_of.Goals as goal

pub loop-client-preserved : goal.loop-client-preserved
loop-client-preserved c =
    named_more (λ address. address.now) (proxy_of (map (λ proxy. proxy.now) c.args.proxies.now)) _ _ c.proxy_of.result c.loop-client.client
    c.loop-client.invariant c.in_ok-push.ensures.items c.proxy_of.ensures
