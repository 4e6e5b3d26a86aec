use Rattle.std.proofs.Common.{◌≡◌, true, Ok, sym, ◌∙◌, ap, subst}
use Rattle.mr_text.specs.Limits.{MAX_ITEMS}
use Rattle.mr_text.specs.steps.Reading.StretchReading.{Waits}
use Rattle.mr_text.specs.steps.ReplyReading.{items_reading}
use Rattle.mr_text.specs.steps.ReplyProgress.{all_of}
use Rattle.mr_text.specs.steps.ReplySteps.{IsAhead}
use Rattle.mr_text.specs.steps.StreamView.{StreamWaits}
use Rattle.mr_text.proofs.UnfinishedReplies.{items_end_inside, items_refused}
use Rattle.mr_text.proofs.reading.unfinished_reply.UnfinishedReply.next_items.Goals as goal

pub returns-then-is_ended-clause-next : goal.returns-then-is_ended-clause-next
returns-then-is_ended-clause-next c =
    let old = c.args.self.now in
    let same = c.look_ahead.ensures.same in
    let waits : items_reading MAX_ITEMS (all_of old.stream) ≡ Waits = subst (λ b. IsAhead (items_reading MAX_ITEMS (all_of old.stream)) (Ok b)) c.in-Ok-false.field-0-test c.in-Ok-false.ensures.ahead in
    items_end_inside old c.requires.progress c.requires.going_on c.requires.begun c.wait.result c.wait.new.self waits
    (sym (ap (λ r. r.stream.ended) same) ∙ sym c.is_ended.ensures ∙ c.if-is_ended.true)
    (subst (λ r. StreamWaits r.stream c.wait.new.self c.wait.result) same c.wait.ensures)

pub returns-in-Err-clause-next : goal.returns-in-Err-clause-next
returns-in-Err-clause-next c =
    let same = c.look_ahead.ensures.same in
    items_refused c.args.self.now c.requires.progress c.requires.going_on c.requires.begun c.in-Err.refusal c.close.new.self c.in-Err.ensures.ahead
    (c.close.ensures ∙ ap (λ r. record r.stream { closed = true }) same)
