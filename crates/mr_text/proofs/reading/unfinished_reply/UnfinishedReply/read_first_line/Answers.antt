use Rattle.std.proofs.Common.{◌≡◌, ◌≤◌, take, true, Ok, Err, refl, sym, ◌∙◌, ap, subst}
use Rattle.mr_text.specs.Limits.{MAX_BLOCK}
use Rattle.mr_text.specs.Replies.{IsItemLine}
use Rattle.mr_text.specs.steps.BegunItem.{SaidItem}
use Rattle.mr_text.specs.steps.Reading.{line_reading}
use Rattle.mr_text.specs.steps.Reading.StretchReading.{Waits, Gives, Refused}
use Rattle.mr_text.specs.steps.ReplyReading.{reply_reading}
use Rattle.mr_text.specs.steps.ReplyProgress.{FirstLineIs, LineTaken}
use Rattle.mr_text.specs.steps.StreamView.{StreamView, with_given, with_read}
use Rattle.mr_text.specs.declared.error.TextError.TheVariants.{OutOfMemory}
use Rattle.mr_text.specs.declared.reading.unfinished_reply.FirstLine.TheVariants as first
use Rattle.mr_text.specs.declared.reply.Reply.TheVariants.{Items}
use Rattle.mr_text.proofs.UnfinishedReplies.{first_stays, first_takes, first_gives, first_lacks, first_refused, lone_is_read}
use Rattle.mr_text.proofs.reading.unfinished_reply.UnfinishedReply.read_first_line.Goals as goal

pub returns-in-Ok-None : goal.returns-in-Ok-None
returns-in-Ok-None c =
    let old = c.args.self.now in
    let waits : line_reading c.as_slice.result.now ≡ Waits = (rw c.in-Ok-None.field-0-is at c.in-Ok-None.ensures) in
    let e = subst (λ s. line_reading s ≡ Waits) (c.as_slice.ensures ∙ ap (λ s. s.unread) c.line_end-end.ensures.same) waits in
    subst (λ s. FirstLineIs old (record { stream = s; said = old.said; items = old.items }) (Ok first.Waits)) (sym c.line_end-end.ensures.same)
    (first_stays old c.requires.progress c.requires.going_on c.requires.nothing e)

pub returns-in_default-lone_reply : goal.returns-in_default-lone_reply
returns-in_default-lone_reply c =
    let old = c.args.self.now in
    let i = c.in-Ok-Some in
    let h = (rw i.field-0-is at i.ensures) in
    let read = lone_is_read c.as_slice.result.now i.line i.size h.0 c.lone_reply.ensures.lone.0 c.lone_reply.ensures.lone.1 in
    let e = subst (λ s. reply_reading s ≡ Gives c.lone_reply.ensures.lone.0 i.size) (c.as_slice.ensures ∙ ap (λ s. s.unread) c.line_end-end.ensures.same) read in
    subst (λ s. FirstLineIs old (record { stream = s; said = old.said; items = old.items }) (Err OutOfMemory)) (sym c.line_end-end.ensures.same)
    (first_lacks old c.requires.progress c.requires.going_on c.requires.nothing i.line c.lone_reply.ensures.lone.0 i.size c.lone_reply.ensures.lone.1 e)

pub returns-in-Some : goal.returns-in-Some
returns-in-Some c =
    let old = c.args.self.now in
    let i = c.in-Some in
    let reply = Items i.items in
    let e = subst (λ s. reply_reading s ≡ Gives reply i.length) (c.as_slice-bytes.ensures ∙ ap (λ s. s.unread) c.line_end-end.ensures.same) i.ensures.reply in
    first_gives old c.requires.progress c.requires.going_on c.requires.nothing (record { stream = c.give.new.self; said = old.said; items = old.items }) reply i.length e
    (c.give.ensures ∙ ap (with_given i.length) c.line_end-end.ensures.same) refl refl

pub returns-in_default : goal.returns-in_default
returns-in_default c =
    let old = c.args.self.now in
    let i = c.in-Ok-Some-Item-default in
    let said : SaidItem = record { key = i.key.now; flags = i.flags; block_length = i.block_length } in
    let h = (rw i.field-0-is at i.ensures) in
    let says : IsItemLine (take i.size c.as_slice.result.now) i.key.now i.flags i.block_length × (i.block_length ≤ MAX_BLOCK) = (rw i.field-0-0-0-is at h.0) in
    let there = subst (λ s. IsItemLine (take i.size s) i.key.now i.flags i.block_length) (c.as_slice.ensures ∙ ap (λ s. s.unread) c.line_end-end.ensures.same) says.0 in
    let taken : LineTaken old (record { stream = c.await_block.new.self; said = c.keep_words.new.said; items = old.items }) said i.size = record {
      stream = c.await_block.ensures ∙ c.read.ensures ∙ ap (with_read i.size) c.line_end-end.ensures.same;
      keeps = c.keep_words.ensures;
      items = refl;
    } in
    first_takes old c.requires.progress c.requires.going_on c.requires.nothing (record { stream = c.await_block.new.self; said = c.keep_words.new.said; items = old.items }) said i.size there says.1 taken

pub returns-in-Ok : goal.returns-in-Ok
returns-in-Ok c =
    let old = c.args.self.now in
    let i = c.in-Ok-Some in
    let h = (rw i.field-0-is at i.ensures) in
    let read = lone_is_read c.as_slice.result.now i.line i.size h.0 c.in-Ok.reply c.in-Ok.ensures.reply in
    let e = subst (λ s. reply_reading s ≡ Gives c.in-Ok.reply i.size) (c.as_slice.ensures ∙ ap (λ s. s.unread) c.line_end-end.ensures.same) read in
    first_gives old c.requires.progress c.requires.going_on c.requires.nothing (record { stream = c.give-in-Ok-Some.new.self; said = old.said; items = old.items }) c.in-Ok.reply i.size e
    (c.give-in-Ok-Some.ensures ∙ ap (with_given i.size) c.line_end-end.ensures.same) refl refl

pub returns-in-Err : goal.returns-in-Err
returns-in-Err c =
    let old = c.args.self.now in
    let e = subst (λ s. reply_reading s ≡ Refused c.in-Err.refusal 0) (c.as_slice.ensures ∙ ap (λ s. s.unread) c.line_end-end.ensures.same) c.in-Err.ensures in
    first_refused old c.requires.progress c.requires.going_on c.requires.nothing (record { stream = c.close.new.self; said = old.said; items = old.items }) c.in-Err.refusal e
    (c.close.ensures ∙ ap (λ (s : StreamView). record s { closed = true }) c.line_end-end.ensures.same) refl refl
