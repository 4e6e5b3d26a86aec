use Rattle.mr_log.proofs.WaitingLemmas.{none_due}
use Rattle.mr_log.proofs.log.first_due.Goals as goal

pub loop-place-preserved : goal.loop-place-preserved
loop-place-preserved c =
    none_due c.args.said.now c.args.now c.args.lines.now c.loop-place.place _ c.loop-place-test.true c.loop-place.invariant (λ due. let no = c.if-is_due.ensures.1 due in cc)
