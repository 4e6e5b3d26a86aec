use Rattle.std.proofs.Common.{◌≡◌, ◌<◌, inl, inr, true, false, length, ap, subst, arith}
use Rattle.std.proofs.lemmas.Bool.{cases_order}
use Rattle.mr_world.specs.Setup.{HasNamedNode}
use Rattle.mr_world.proofs.network.making.names_node.Goals as goal

pub loop-pool-preserved : goal.loop-pool-preserved
loop-pool-preserved c = λ k below has.
    elim (cases_order k c.loop-pool.pool) [
      | inl same ↦
          let here : c.has_node.result ≡ true = c.has_node.ensures.1 (subst (λ n. HasNamedNode c.args.routing.now n c.args.name.now) same has) in
          let missing = c.if-has_node.false in
          cc
      | inr apart ↦ elim apart [ inl less ↦ c.loop-pool.invariant k less has | inr less ↦ absurd (omega arith) ]
    ]

pub returns : goal.returns
returns c = (
  λ claimed. let both : false ≡ true = claimed in (cc),
  λ names.
      let there = names.has.there in
      let all = ap length c.pools-pool-end.ensures.pools in
      let within : names.pool < c.loop-pool.pool = omega arith in
      absurd (c.loop-pool.invariant names.pool within names.has),
)
