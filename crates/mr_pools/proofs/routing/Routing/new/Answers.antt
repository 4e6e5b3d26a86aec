use Rattle.std.proofs.Common.{rules, refl, true, ◌≡◌, IsTrue}
use Rattle.mr_pools.specs.Pool.{AreApart}
use Rattle.mr_pools.proofs.RoutingLemmas.{routing_between-sound}
use Rattle.mr_pools.proofs.routing.Routing.new.Goals as goal

pub invariant_of-result : goal.invariant_of-result
invariant_of-result c =
    let proved : IsTrue c.are_apart.result = search rules in
    let apart : AreApart c.names.result.now c.names-2.result.now = c.are_apart.ensures.0 proved in
    routing_between-sound c.args.old c.args.new c.args.hash c.names.ensures.pool c.names-2.ensures.pool
    (rw (c.names.ensures.names, c.names-2.ensures.names) at apart)

pub returns-then-not-are_apart : goal.returns-then-not-are_apart
returns-then-not-are_apart c = (
  refl,
  λ apart.
      let there : AreApart c.names.result.now c.names-2.result.now
      = rw (c.names.ensures.names, c.names-2.ensures.names) apart in
      let claimed : c.are_apart.result ≡ true = c.are_apart.ensures.1 there in (cc),
)

pub returns : goal.returns
returns c =
    let proved : IsTrue c.are_apart.result = search rules in
    let apart : AreApart c.names.result.now c.names-2.result.now = c.are_apart.ensures.0 proved in
    (rw (c.names.ensures.names, c.names-2.ensures.names) at apart, refl)
