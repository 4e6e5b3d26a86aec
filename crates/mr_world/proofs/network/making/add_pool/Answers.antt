use Rattle.std.proofs.Common.{take, fold, sym, ap, ◌∙◌}
use Rattle.std.proofs.lemmas.List.Sums.{fold_more}
use Rattle.mr_world.specs.Setup.{with_name}
use Rattle.mr_world.proofs.network.making.add_pool.Goals as goal

pub loop-name-preserved : goal.loop-name-preserved
loop-name-preserved c =
    let items = c.names-name-items.result.now in
    let place = c.loop-name.name-index in
    let nodes = c.args.nodes.now in
    let with = with_name c.args.capacity in
    c.in_ok-add.ensures ∙ ap (λ l. with l c.name-item.result) c.loop-name.invariant
    ∙ ap (with (fold with nodes (take place items))) c.name-item.is
    ∙ sym (fold_more with nodes items place c.name-item.result c.loop-name-test.true)
