use Rattle.std.proofs.Common.{◌≡◌, drop}
use Rattle.mr_desks.specs.Closing.{has_op}
use Rattle.mr_desks.proofs.closing.has_op.Given as goal

abbrev pub invariant-loop-answer : goal.invariant-loop-answer
invariant-loop-answer l = has_op l.answers l.op ≡ has_op (drop l.answer-index l.answers) l.op
