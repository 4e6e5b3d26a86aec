use Rattle.std.proofs.Common.{Ok, sym, ◌∙◌, ap}
use Rattle.mr_text.specs.steps.Reading.{block_reading}
use Rattle.mr_text.proofs.ReplyProgress.{ahead_whole, ahead_waits, ahead_refused, behind_is}
use Rattle.mr_text.proofs.reading.replies.block_ahead.Goals as goal

pub returns-in-Ok-true : goal.returns-in-Ok-true
returns-in-Ok-true c = λ room key flags some is.
    ahead_whole c.args.bytes.now key flags c.args.block_length c.args.size room c.requires.line some is c.requires.block
    (ap (block_reading c.args.block_length) (sym (behind_is c.args.size c.args.bytes.now)) ∙ sym c.in-Ok-true.ensures.reading ∙ ap Ok c.in-Ok-true.field-0-test)

pub returns-in-Ok-false : goal.returns-in-Ok-false
returns-in-Ok-false c = λ room key flags some is.
    ahead_waits c.args.bytes.now key flags c.args.block_length c.args.size room c.requires.line some is c.requires.block
    (ap (block_reading c.args.block_length) (sym (behind_is c.args.size c.args.bytes.now)) ∙ sym c.in-Ok-false.ensures.reading ∙ ap Ok c.in-Ok-false.field-0-test)

pub returns-in-Err : goal.returns-in-Err
returns-in-Err c = λ room key flags some is.
    ahead_refused c.args.bytes.now key flags c.args.block_length c.args.size room c.requires.line some is c.requires.block c.in-Err.refusal
    (ap (block_reading c.args.block_length) (sym (behind_is c.args.size c.args.bytes.now)) ∙ sym c.in-Err.ensures.reading)
