use Rattle.mr_text.proofs.Copied.{copied_more}
use Rattle.mr_text.proofs.key_list.KeyList.copy.Goals as goal

pub loop-key-preserved : goal.loop-key-preserved
loop-key-preserved c = copied_more _ _ _ _ _ _ c.loop-key-test.true c.loop-key.invariant c.key-item.is c.in_ok-copy.ensures c.in_ok-push.ensures.items
