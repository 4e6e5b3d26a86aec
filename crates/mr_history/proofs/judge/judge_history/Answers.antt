use Rattle.std.proofs.Common.{◌≡◌, length, subst, arith}
use Rattle.mr_history.specs.History.{IsSafe}
use Rattle.mr_history.specs.Judgement.{AreFreshBefore}
use Rattle.mr_history.proofs.JudgeLemmas.{nothing_before, all_safe}
use Rattle.mr_history.proofs.judge.judge_history.Goals as goal

pub loop-place-init : goal.loop-place-init
loop-place-init c = nothing_before _

pub returns : goal.returns
returns c =
    let all : c.loop-place.place ≡ length c.entries-entries.result.now = omega arith in
    subst IsSafe c.entries-entries.ensures.entries (all_safe _ (subst (AreFreshBefore c.entries-entries.result.now) all c.loop-place.invariant))
