use Rattle.std.proofs.Common.{◌∙◌, ap, sym}
use Rattle.std.specs.List.{list_all}
use Rattle.serde_json.specs.View.{view}
use Rattle.mr_scripts.specs.Homes.{node_at}
use Rattle.mr_scripts.specs.steps.HomeIndex.{has_name}
use Rattle.mr_scripts.proofs.HomeIndexLemmas.{one_indexed}
use Rattle.mr_scripts.proofs.ListLemmas.{turn}
use Rattle.mr_scripts.proofs.homes.are_indexed.Goals as goal

pub returns-then-not-contains : goal.returns-then-not-contains
returns-then-not-contains c =
    sym (c.loop-item.invariant
    ∙ ap (list_all (λ item. has_name c.args.index.now (node_at item))) (turn view c.args.items.now c.loop-item.item-index _ c.loop-item-test.true c.item-item.is)
    ∙ one_indexed c.args.index.now (view c.item-item.result) _ _
    (ap (has_name c.args.index.now) (sym c.node_at.ensures) ∙ sym c.contains.ensures ∙ c.if-not-contains.true))

pub loop-item-preserved : goal.loop-item-preserved
loop-item-preserved c =
    c.loop-item.invariant
    ∙ ap (list_all (λ item. has_name c.args.index.now (node_at item))) (turn view c.args.items.now c.loop-item.item-index _ c.loop-item-test.true c.item-item.is)
    ∙ one_indexed c.args.index.now (view c.item-item.result) _ _
    (ap (has_name c.args.index.now) (sym c.node_at.ensures) ∙ sym c.contains.ensures ∙ c.if-not-contains.false)
