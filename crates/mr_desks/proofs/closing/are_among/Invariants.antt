use Rattle.std.proofs.Common.{ℕ, ◌<◌, slice_index_or}
use Rattle.std.specs.Prelude.{Contains}
use Rattle.mr_proxy.specs.Answer.{AnswerView}
use Rattle.mr_desks.proofs.closing.are_among.Given as goal

-- all so far are among the others
abbrev pub invariant-loop-answer : goal.invariant-loop-answer
invariant-loop-answer l = (k : ℕ) (d : AnswerView) → k < l.answer-index → Contains l.others (slice_index_or l.answers k d)
