use Rattle.std.proofs.Common.{◌≡◌, true, false, rules, arith, refl}
use Rattle.mr_pools.proofs.PoolLemmas.{apart_more, not_apart}
use Rattle.mr_pools.proofs.pool.are_apart.Goals as goal

pub returns-then-contains : goal.returns-then-contains
returns-then-contains c = (
  λ claimed. let both : false ≡ true = claimed in (cc),
  λ apart. absurd (not_apart c.args.old.now c.args.new.now c.loop-name.name-index c.name-item.result
      c.loop-name-test.true c.name-item.is (search rules) apart),
)

pub loop-name-preserved : goal.loop-name-preserved
loop-name-preserved c =
    apart_more c.args.old.now c.args.new.now c.loop-name.name-index c.name-item.result c.loop-name-test.true
    c.name-item.is (search rules) c.loop-name.invariant

pub returns : goal.returns
returns c = (λ _ k d within. c.loop-name.invariant k d (omega arith), λ _. refl)
