use Rattle.std.proofs.Common.{rules, ◌≡◌, true, false, IsTrue, arith, refl}
use Rattle.mr_pools.specs.Pool.{AreApart}
use Rattle.mr_pools.proofs.PoolLemmas.{stand_more, not_stand, stand_all}
use Rattle.mr_pools.proofs.routing.stand_apart.Goals as goal

pub returns-then-not-are_apart : goal.returns-then-not-are_apart
returns-then-not-are_apart c = (
  λ claimed. let both : false ≡ true = claimed in (cc),
  λ all. absurd (not_stand c.args.pools.now c.loop-earlier.earlier-index c.earlier-item.result c.args.names.now
      c.loop-earlier-test.true c.earlier-item.is
      (λ apart.
      let there : AreApart c.names.result.now c.args.names.now = rw c.names.ensures.names apart in
      let claimed : c.are_apart.result ≡ true = c.are_apart.ensures.1 there in (cc)) all),
)

pub loop-earlier-preserved : goal.loop-earlier-preserved
loop-earlier-preserved c =
    let proved : IsTrue c.are_apart.result = search rules in
    let apart : AreApart c.names.result.now c.args.names.now = c.are_apart.ensures.0 proved in
    stand_more c.args.pools.now c.loop-earlier.earlier-index c.earlier-item.result c.args.names.now
    c.loop-earlier-test.true c.earlier-item.is (rw c.names.ensures.names at apart) c.loop-earlier.invariant

pub returns : goal.returns
returns c = (
  λ _. stand_all c.args.pools.now c.loop-earlier.earlier-index c.args.names.now (omega arith) c.loop-earlier.invariant,
  λ _. refl,
)
