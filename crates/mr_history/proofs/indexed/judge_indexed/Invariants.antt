use Rattle.mr_history.specs.Judgement.{AreFreshBefore}
use Rattle.mr_history.specs.steps.Index.{IsIndexOf}
use Rattle.mr_history.proofs.indexed.judge_indexed.Given as goal

-- the hits so far are fresh, and the entries so far indexed
abbrev pub invariant-loop-place : goal.invariant-loop-place
invariant-loop-place l = record {
  fresh : AreFreshBefore l.entries l.place;
  indexed : IsIndexOf l.entries l.place l.index;
}
