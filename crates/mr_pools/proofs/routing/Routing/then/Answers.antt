use Rattle.std.proofs.Common.{rules, ◌≡◌, ◌<◌, length, sym, subst, true, IsTrue, All, refl}
use Rattle.mr_pools.specs.Limits.{most_pools}
use Rattle.mr_pools.specs.Pool.{AreApart}
use Rattle.mr_pools.specs.Routing.{IsRouting, StandsApart}
use Rattle.mr_pools.proofs.RoutingLemmas.{room_left, routing_onto-sound, routing_onto-made}
use Rattle.mr_pools.proofs.routing.Routing.then.Goals as goal

pub returns-then-not-stand_apart : goal.returns-then-not-stand_apart
returns-then-not-stand_apart c =
    let room : length c.args.self.pools < most_pools
    = room_left c.pools.result.now _ c.pools.ensures.pools c.pools.ensures.routing c.if-pools-eq-MAX_POOLS.false in
    let shared : ¬ StandsApart c.args.self c.args.pool
    = λ apart.
    let there : All (λ earlier. AreApart earlier c.names.result.now) c.pools-2.result.now
    = rw (c.pools-2.ensures.pools, c.names.ensures.names) apart in
    let claimed : c.stand_apart.result ≡ true = c.stand_apart.ensures.1 there in (cc) in
    ((room, shared), refl, refl)

pub invariant_of-result : goal.invariant_of-result
invariant_of-result c =
    let room : length c.args.self.pools < most_pools
    = room_left c.pools.result.now _ c.pools.ensures.pools c.pools.ensures.routing c.if-pools-eq-MAX_POOLS.false in
    let proved : IsTrue c.stand_apart.result = search rules in
    let apart : All (λ earlier. AreApart earlier c.names.result.now) c.pools-2.result.now
    = c.stand_apart.ensures.0 proved in
    subst IsRouting (sym (routing_onto-made _ _ _ c.args.self c.args.pool c.self.view_is c.then.ensures))
    (routing_onto-sound c.args.self c.args.pool c.pools.ensures.routing room c.names.ensures.pool
    (rw (c.pools-2.ensures.pools, c.names.ensures.names) at apart))

pub returns : goal.returns
returns c =
    let room : length c.args.self.pools < most_pools
    = room_left c.pools.result.now _ c.pools.ensures.pools c.pools.ensures.routing c.if-pools-eq-MAX_POOLS.false in
    let proved : IsTrue c.stand_apart.result = search rules in
    let apart : All (λ earlier. AreApart earlier c.names.result.now) c.pools-2.result.now
    = c.stand_apart.ensures.0 proved in (
      room,
      rw (c.pools-2.ensures.pools, c.names.ensures.names) at apart,
      routing_onto-made _ _ _ c.args.self c.args.pool c.self.view_is c.then.ensures,
    )
