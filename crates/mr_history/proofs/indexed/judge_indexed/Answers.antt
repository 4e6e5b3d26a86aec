use Rattle.std.proofs.Common.{◌≡◌, length, subst, arith}
use Rattle.mr_history.specs.History.{IsSafe}
use Rattle.mr_history.specs.Judgement.{AreFreshBefore}
use Rattle.mr_history.proofs.JudgeLemmas.{all_safe}
use Rattle.mr_history.proofs.indexed.judge_indexed.Goals as goal

pub returns-clause-judged : goal.returns-clause-judged
returns-clause-judged c =
    let all : c.loop-place.place ≡ length c.entries-entries.result.now = omega arith in
    subst IsSafe c.entries-entries.ensures.entries (all_safe _ (subst (AreFreshBefore c.entries-entries.result.now) all c.loop-place.invariant.fresh))
