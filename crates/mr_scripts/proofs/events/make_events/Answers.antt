use Rattle.mr_scripts.proofs.EventLemmas.{one_made}
use Rattle.mr_scripts.proofs.events.make_events.Goals as goal

pub loop-value-preserved : goal.loop-value-preserved
loop-value-preserved c =
    rw c.in_ok-push.ensures.items
    (one_made _ _ _ _ _ _ c.loop-value-test.true c.value-item.is c.loop-value.invariant c.in_ok-make_event.ensures)
