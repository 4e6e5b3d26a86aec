use Rattle.mr_history.specs.Judgement.{AreFreshBefore}
use Rattle.mr_history.proofs.judge.judge_history.Given as goal

abbrev pub invariant-loop-place : goal.invariant-loop-place
invariant-loop-place l = AreFreshBefore l.entries l.place
