use Rattle.mr_history.specs.Judgement.{AreFreshUpTo}
use Rattle.mr_history.proofs.indexed.judge_items.Given as goal

-- the items so far are fresh
abbrev pub invariant-loop-item : goal.invariant-loop-item
invariant-loop-item l = AreFreshUpTo l.entries l.items l.issue l.answer l.item-index
