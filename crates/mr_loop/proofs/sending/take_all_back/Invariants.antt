use Rattle.std.proofs.Common.{◌≡◌, vec_len}
use Rattle.mr_loop.specs.steps.Sending.{undone}
use Rattle.mr_loop.proofs.sending.take_all_back.Given as goal

-- what is left to take back comes to what was to be taken back
abbrev pub invariant-loop-mark : goal.invariant-loop-mark
invariant-loop-mark l = undone l.scratch.marks.items l.links ≡ undone l.fn.scratch.marks.items l.fn.links

abbrev pub decreases-loop-mark : goal.decreases-loop-mark
decreases-loop-mark l = vec_len l.scratch.marks
