use Rattle.std.proofs.Common.{Ok, sym, ◌∙◌, ap}
use Rattle.mr_text.proofs.ReplyProgress.{behind_whole, behind_waits, behind_refused}
use Rattle.mr_text.proofs.reading.replies.items_behind_block.Goals as goal

pub returns-in-Ok-true : goal.returns-in-Ok-true
returns-in-Ok-true c = λ line key flags is.
    behind_whole line c.args.bytes.now key flags c.args.block_length c.args.room c.requires.room is c.requires.block c.items_from.result
    (sym c.in-Ok-true.ensures.reading ∙ ap Ok c.in-Ok-true.field-0-test) c.items_from.ensures

pub returns-in-Ok-false : goal.returns-in-Ok-false
returns-in-Ok-false c = λ line key flags is.
    behind_waits line c.args.bytes.now key flags c.args.block_length c.args.room c.requires.room is c.requires.block
    (sym c.in-Ok-false.ensures.reading ∙ ap Ok c.in-Ok-false.field-0-test)

pub returns-in-Err : goal.returns-in-Err
returns-in-Err c = λ line key flags is.
    behind_refused line c.args.bytes.now key flags c.args.block_length c.args.room c.requires.room is c.requires.block c.in-Err.refusal
    (sym c.in-Err.ensures.reading)
