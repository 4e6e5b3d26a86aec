use Rattle.std.proofs.Common.{sym}
use Rattle.mr_scripts.proofs.EventLemmas.{seen_bad, seen_more}
use Rattle.mr_scripts.proofs.events.check_events.Goals as goal

pub returns-then-not-is_event-clause-refused : goal.returns-then-not-is_event-clause-refused
returns-then-not-is_event-clause-refused c =
    seen_bad _ _ _ _ c.loop-index-test.true c.index-values-index.is c.loop-index.invariant (sym c.if-not-is_event.ensures)

pub loop-index-preserved : goal.loop-index-preserved
loop-index-preserved c =
    seen_more _ _ _ _ c.loop-index-test.true c.index-values-index.is c.loop-index.invariant (sym c.if-not-is_event.ensures)
