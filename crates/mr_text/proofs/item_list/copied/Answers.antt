use Rattle.mr_text.proofs.Copied.{copied_more}
use Rattle.mr_text.proofs.item_list.copied.Goals as goal

pub loop-item-preserved : goal.loop-item-preserved
loop-item-preserved c = copied_more _ _ _ _ _ _ c.loop-item-test.true c.loop-item.invariant c.item-item.is c.in_ok-copy.ensures c.in_ok-push.ensures.items
