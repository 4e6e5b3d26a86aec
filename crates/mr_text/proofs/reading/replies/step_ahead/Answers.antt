use Rattle.mr_text.proofs.ReplyProgress.{next_waits}
use Rattle.mr_text.proofs.reading.replies.step_ahead.Goals as goal

pub returns-in-Ok-Item : goal.returns-in-Ok-Item
returns-in-Ok-Item c = let h = (rw c.in-Ok-Item.field-0-is at c.in-Ok-Item.ensures) in c.block_ahead.ensures c.args.room _ _ h.2 h.0

pub returns-in-Ok-Waits : goal.returns-in-Ok-Waits
returns-in-Ok-Waits c = next_waits c.args.room c.args.bytes.now (rw c.in-Ok-Waits.field-0-is at c.in-Ok-Waits.ensures)
