use Rattle.std.proofs.Common.{◌≢◌, ◌<◌, ℕ, slice_index_or}
use Rattle.mr_proxy.specs.Answer.{AnswerView}
use Rattle.mr_desks.proofs.closing.contains.Given as goal

-- it is none of those so far
abbrev pub invariant-loop-other : goal.invariant-loop-other
invariant-loop-other l = (k : ℕ) (d : AnswerView) → k < l.other-index → slice_index_or l.answers k d ≢ l.answer
