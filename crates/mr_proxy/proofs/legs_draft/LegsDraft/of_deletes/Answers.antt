use Rattle.std.proofs.Common.{◌∷◌, [], ◌++◌, length, get_or, ap, ◌∙◌, arith}
use Rattle.mr_phases.specs.declared.side.Side.TheVariants.{Old}
use Rattle.mr_node.specs.declared.command.NodeCommand.TheVariants.{Delete}
use Rattle.mr_proxy.specs.Sheets.{sheet_at}
use Rattle.mr_proxy.proofs.DraftLemmas.{delete_added}
use Rattle.mr_proxy.proofs.legs_draft.LegsDraft.of_deletes.Goals as goal

pub loop-side-preserved : goal.loop-side-preserved
loop-side-preserved c =
    c.in_ok-add.ensures
    ∙ ap (λ key. c.loop-side.draft ++ sheet_at c.args.routing.now c.args.hop c.args.op (length c.loop-side.draft)
    (record { side = get_or c.args.sides.now c.loop-side.side-index Old; command = Delete key }) ∷ [])
    c.in_ok-copy.ensures
    ∙ delete_added c.args.routing.now c.args.hop c.args.op c.args.sides.now (Delete c.args.key.now) c.loop-side.side-index Old c.loop-side.draft
    (omega arith) c.loop-side.invariant
