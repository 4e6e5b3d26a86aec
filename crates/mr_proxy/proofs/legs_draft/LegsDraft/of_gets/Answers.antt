use Rattle.std.proofs.Common.{◌∷◌, [], ◌++◌, length, ap, ◌∙◌, arith}
use Rattle.mr_node.specs.declared.command.NodeCommand.TheVariants.{Get}
use Rattle.mr_proxy.specs.Sheets.{sheet_at}
use Rattle.mr_proxy.proofs.DraftLemmas.{get_added}
use Rattle.mr_proxy.proofs.legs_draft.LegsDraft.of_gets.Goals as goal

pub loop-key-preserved : goal.loop-key-preserved
loop-key-preserved c =
    c.in_ok-add.ensures
    ∙ ap (λ key. c.loop-key.draft ++ sheet_at c.args.routing.now c.args.hop c.args.op (length c.loop-key.draft) (record { side = c.args.side; command = Get key }) ∷ [])
    c.in_ok-copy.ensures
    ∙ get_added c.args.routing.now c.args.hop c.args.op c.args.side c.args.keys.now c.loop-key.key-index c.key-item.result c.loop-key.draft
    (omega arith) c.key-item.is c.loop-key.invariant
