use Rattle.mr_probes.specs.steps.Judging.{AreZero}
use Rattle.mr_probes.proofs.notebook.first_positive.Given as goal

abbrev pub invariant-loop-place : goal.invariant-loop-place
invariant-loop-place l = AreZero l.counts l.from l.place
