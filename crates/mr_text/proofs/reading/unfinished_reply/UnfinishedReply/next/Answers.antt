use Rattle.std.proofs.Common.{rules, ◌≡◌, false, length, Ok, refl, sym, ◌∙◌, subst}
use Rattle.std.proofs.lemmas.List.{nil_from_length}
use Rattle.mr_text.specs.steps.Reading.{line_reading}
use Rattle.mr_text.specs.steps.Reading.StretchReading.{Waits}
use Rattle.mr_text.specs.steps.ReplyProgress.{FirstLineIs, has_begun}
use Rattle.mr_text.specs.steps.StreamView.{reader_of}
use Rattle.mr_text.specs.declared.reading.unfinished_reply.FirstLine.{FirstLine}
use Rattle.mr_text.proofs.ReplyNexts.{next_from}
use Rattle.mr_text.proofs.UnfinishedReplies.{first_stays, first_wait}
use Rattle.mr_text.proofs.reading.unfinished_reply.UnfinishedReply.next.Goals as goal

pub returns-then-held-eq0-clause-next : goal.returns-then-held-eq0-clause-next
unfolding line_reading
returns-then-held-eq0-clause-next c =
    let old = c.args.self.now in
    let nothing : has_begun old ≡ false = search rules in
    let none : length old.stream.unread ≡ 0 = search rules in
    let waits : line_reading old.stream.unread ≡ Waits = subst (λ s. line_reading s ≡ Waits) (sym (nil_from_length old.stream.unread none)) refl in
    first_wait old old c.wait.new.self c.wait.result c.requires.going_on
    (first_stays old c.requires.progress c.requires.going_on nothing waits) c.wait.ensures

pub returns-in-Ok-Waits-clause-next : goal.returns-in-Ok-Waits-clause-next
returns-in-Ok-Waits-clause-next c =
    let is = subst (λ (f : FirstLine). FirstLineIs c.args.self.now c.read_first_line.new.self (Ok f)) c.in-Ok-Waits.field-0-is c.in-Ok-Waits.ensures in
    first_wait c.args.self.now c.read_first_line.new.self c.wait-in-Ok-Waits.new.self c.wait-in-Ok-Waits.result c.requires.going_on is c.wait-in-Ok-Waits.ensures

pub returns-in-Ok-Item-clause-next : goal.returns-in-Ok-Item-clause-next
returns-in-Ok-Item-clause-next c =
    let is = subst (λ (f : FirstLine). FirstLineIs c.args.self.now c.read_first_line.new.self (Ok f)) c.in-Ok-Item.field-0-is c.in-Ok-Item.ensures in
    next_from c.args.self.now.stream c.read_first_line.new.self.stream (reader_of c.next_items-in-Ok-Item.new.self.stream) c.next_items-in-Ok-Item.result
    (is.1.closed ∙ c.requires.going_on) is.1 c.next_items-in-Ok-Item.ensures.next
