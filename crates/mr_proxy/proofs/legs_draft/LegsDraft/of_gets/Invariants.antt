use Rattle.std.proofs.Common.{◌≡◌, ◌∷◌, [], map, take}
use Rattle.mr_node.specs.declared.command.NodeCommand.TheVariants.{Get}
use Rattle.mr_proxy.specs.Sheets.{sheets_from, targets_of}
use Rattle.mr_proxy.proofs.legs_draft.LegsDraft.of_gets.Given as goal

-- the keys so far have their legs
abbrev pub invariant-loop-key : goal.invariant-loop-key
invariant-loop-key l = l.draft ≡ sheets_from l.routing l.hop l.op 0 (targets_of (l.side ∷ []) (map Get (take l.key-index l.keys)))
