use Rattle.std.proofs.Common.{◌≡◌, ◌∷◌, [], take}
use Rattle.mr_node.specs.declared.command.NodeCommand.TheVariants.{Delete}
use Rattle.mr_proxy.specs.Sheets.{sheets_from, targets_of}
use Rattle.mr_proxy.proofs.legs_draft.LegsDraft.of_deletes.Given as goal

-- the sides so far have their legs
abbrev pub invariant-loop-side : goal.invariant-loop-side
invariant-loop-side l = l.draft ≡ sheets_from l.routing l.hop l.op 0 (targets_of (take l.side-index l.sides) (Delete l.key ∷ []))
