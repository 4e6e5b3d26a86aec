use Rattle.std.proofs.Common.{◌≡◌, ◌-◌, take}
use Rattle.mr_transcripts.specs.steps.Least.{blocks_length}
use Rattle.mr_transcripts.proofs.least.room_beside_items.Given as goal

abbrev pub invariant-loop-item : goal.invariant-loop-item
invariant-loop-item l = l.left ≡ l.fn.room - blocks_length (take l.item-index l.items)
