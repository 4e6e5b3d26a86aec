use Rattle.std.proofs.Common.{take, fold, sym, ap, ◌∙◌}
use Rattle.std.proofs.lemmas.List.Sums.{fold_more}
use Rattle.mr_world.specs.Setup.{with_pool}
use Rattle.mr_world.proofs.network.making.add_routing.Goals as goal

pub loop-pool-preserved : goal.loop-pool-preserved
loop-pool-preserved c =
    let items = c.pools-pool-items.result.now in
    let place = c.loop-pool.pool-index in
    let nodes = c.args.nodes.now in
    let with = with_pool c.args.capacity in
    c.in_ok-add_pool.ensures ∙ ap (λ l. with l c.pool-item.result) c.loop-pool.invariant
    ∙ ap (with (fold with nodes (take place items))) c.pool-item.is
    ∙ sym (fold_more with nodes items place c.pool-item.result c.loop-pool-test.true)
