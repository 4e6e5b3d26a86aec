use Rattle.std.proofs.Common.{arith, ◌≡◌, ◌-◌, ◌<◌, ◌≤◌, length, take, Ok, sym, ◌∙◌, ap, subst}
use Rattle.mr_text.specs.Limits.{MAX_BLOCK, MAX_ITEMS}
use Rattle.mr_text.specs.Replies.{IsItemLine}
use Rattle.mr_text.specs.steps.BegunItem.{SaidItem}
use Rattle.mr_text.specs.steps.Reading.{line_reading}
use Rattle.mr_text.specs.steps.Reading.StretchReading.{Waits, Gives, Refused}
use Rattle.mr_text.specs.steps.ReplyReading.{step_reading}
use Rattle.mr_text.specs.steps.ReplyReading.Step.{EndStep}
use Rattle.mr_text.specs.steps.ReplyProgress.{LineTaken, TakesStep}
use Rattle.mr_text.specs.declared.reading.unfinished_reply.ReadStep.TheVariants as step
use Rattle.mr_text.proofs.UnfinishedReplies.{along, line_stays, line_takes, line_ends, line_never}
use Rattle.mr_text.proofs.reading.unfinished_reply.UnfinishedReply.read_line.Goals as goal

pub unreachable-requires : goal.unreachable-requires
unreachable-requires c =
    let old = c.args.self.now in
    let e = along (λ n s. step_reading n s ≡ Refused c.in-Err.field-0 0) (MAX_ITEMS - c.len-room.result) (MAX_ITEMS - length old.items.items) c.as_slice.result.now old.stream.unread
    (let count = c.len-room.ensures in omega (arith, old.items.ok.0)) (c.as_slice.ensures ∙ ap (λ s. s.unread) c.line_end-end.ensures.same) c.in-Err.ensures in
    line_never old c.requires.progress c.requires.no_line c.in-Err.field-0 e c.requires.readable

pub returns-in-Ok-Waits : goal.returns-in-Ok-Waits
returns-in-Ok-Waits c =
    let old = c.args.self.now in
    let waits : line_reading c.as_slice.result.now ≡ Waits = (rw c.in-Ok-Waits.field-0-is at c.in-Ok-Waits.ensures) in
    let e = subst (λ s. line_reading s ≡ Waits) (c.as_slice.ensures ∙ ap (λ s. s.unread) c.line_end-end.ensures.same) waits in
    subst (λ s. TakesStep old (record { stream = s; said = old.said; items = old.items }) (Ok step.Waits)) (sym c.line_end-end.ensures.same)
    (line_stays old c.requires.progress c.requires.no_line e)

pub returns-in-Ok-Item : goal.returns-in-Ok-Item
returns-in-Ok-Item c =
    let old = c.args.self.now in
    let i = c.in-Ok-Item in
    let said : SaidItem = record { key = i.key.now; flags = i.flags; block_length = i.block_length } in
    let says : IsItemLine (take i.size c.as_slice.result.now) i.key.now i.flags i.block_length × (i.block_length ≤ MAX_BLOCK) × (0 < MAX_ITEMS - c.len-room.result) × (i.size ≤ length c.as_slice.result.now) =
    (rw i.field-0-is at i.ensures) in
    let there = along (λ n s. IsItemLine (take i.size s) i.key.now i.flags i.block_length × (i.block_length ≤ MAX_BLOCK) × (0 < n) × (i.size ≤ length s))
    (MAX_ITEMS - c.len-room.result) (MAX_ITEMS - length old.items.items) c.as_slice.result.now old.stream.unread
    (let count = c.len-room.ensures in omega (arith, old.items.ok.0)) (c.as_slice.ensures ∙ ap (λ s. s.unread) c.line_end-end.ensures.same) says in
    let taken = subst (λ w. LineTaken old c.begin.new.self w i.size) c.of-said.ensures
    (subst (λ s. LineTaken (record { stream = s; said = old.said; items = old.items }) c.begin.new.self c.of-said.result i.size) c.line_end-end.ensures.same c.begin.ensures) in
    line_takes old c.requires.progress c.requires.no_line c.begin.new.self said i.size there.0 there.1 there.2 taken

pub returns-in-Ok-End : goal.returns-in-Ok-End
returns-in-Ok-End c =
    let old = c.args.self.now in
    let i = c.in-Ok-End in
    let says : (step_reading (MAX_ITEMS - c.len-room.result) c.as_slice.result.now ≡ Gives EndStep i.size) × (i.size ≤ length c.as_slice.result.now) = (rw i.field-0-is at i.ensures) in
    let there = along (λ n s. (step_reading n s ≡ Gives EndStep i.size) × (i.size ≤ length s))
    (MAX_ITEMS - c.len-room.result) (MAX_ITEMS - length old.items.items) c.as_slice.result.now old.stream.unread
    (let count = c.len-room.ensures in omega (arith, old.items.ok.0)) (c.as_slice.ensures ∙ ap (λ s. s.unread) c.line_end-end.ensures.same) says in
    subst (λ s. TakesStep old (record { stream = s; said = old.said; items = old.items }) (Ok (step.End i.size))) (sym c.line_end-end.ensures.same)
    (line_ends old c.requires.progress c.requires.no_line i.size there.0 there.1)
