use Rattle.std.proofs.Common.{◌≡◌, ◌-◌, take}
use Rattle.mr_transcripts.specs.steps.Least.{blocks_of_history}
use Rattle.mr_transcripts.proofs.least.room_beside_history.Given as goal

abbrev pub invariant-loop-entry : goal.invariant-loop-entry
invariant-loop-entry l = l.left ≡ l.fn.room - blocks_of_history (take l.entry-index l.entries)
