use Rattle.std.proofs.Common.{arith, ◌-◌, ◌++◌, length, ap, ◌∙◌}
use Rattle.mr_text.specs.Limits.{MAX_ITEMS}
use Rattle.mr_text.specs.steps.ReplyReading.{items_reading}
use Rattle.mr_text.specs.steps.ReplySteps.{IsAhead}
use Rattle.mr_text.proofs.UnfinishedReplies.{along, block_ahead_is, line_ahead_is, unsaid}
use Rattle.mr_text.proofs.reading.unfinished_reply.UnfinishedReply.look_ahead.Goals as goal

pub returns-in-Some-clause-ahead : goal.returns-in-Some-clause-ahead
returns-in-Some-clause-ahead c =
    let old = c.args.self.now in
    block_ahead_is old c.in-Some.said c.requires c.in-Some.is c.items_behind_block.result (λ line key flags is.
    along (λ n s. IsAhead (items_reading n (line ++ s)) c.items_behind_block.result) (MAX_ITEMS - c.len-room.result) (MAX_ITEMS - length old.items.items)
    c.as_slice.result.now old.stream.unread (let count = c.len-room.ensures in omega (arith, old.items.ok.0)) c.as_slice.ensures
    (c.items_behind_block.ensures line key flags (rw c.block_length.ensures.length is)))

pub returns-clause-ahead : goal.returns-clause-ahead
returns-clause-ahead c =
    let old = c.args.self.now in
    line_ahead_is old c.requires (unsaid old.said c.in_default.not-Some) c.items_ahead.result
    (along (λ n s. IsAhead (items_reading n s) c.items_ahead.result) (MAX_ITEMS - c.len-room.result) (MAX_ITEMS - length old.items.items)
    c.as_slice-2.result.now old.stream.unread (let count = c.len-room.ensures in omega (arith, old.items.ok.0))
    (c.as_slice-2.ensures ∙ ap (λ s. s.unread) c.line_end-end.ensures.same) c.items_ahead.ensures)
