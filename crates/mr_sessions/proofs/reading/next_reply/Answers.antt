use Rattle.std.proofs.Common.{Option, Result, Ok, Err, refl, sym, subst}
use Rattle.mr_text.specs.Replies.{NextReplyIs}
use Rattle.mr_text.specs.declared.error.TextError.{TextError}
use Rattle.mr_text.specs.declared.reply.Reply.{Reply}
use Rattle.mr_desks.specs.declared.error.WorkerError.{WorkerError}
use Rattle.mr_sessions.specs.steps.Reading.{NextIs}
use Rattle.mr_sessions.proofs.ReadLemmas.{next_given, next_refused}
use Rattle.mr_sessions.proofs.reading.next_reply.Goals as goal

pub returns-in-Ok : goal.returns-in-Ok
returns-in-Ok c =
    let old = c.args.replies.now in
    let next : NextReplyIs old c.next.new.self old.kept (Ok c.in-Ok.reply) =
    subst (λ (r : Result (Option Reply) TextError). NextReplyIs old c.next.new.self old.kept r)
    c.in-Ok.is (c.next.ensures.answer old.kept refl) in
    next_given old c.next.new.self c.in-Ok.reply c.requires next

pub returns-in-Err : goal.returns-in-Err
returns-in-Err c =
    let old = c.args.replies.now in
    let next : NextReplyIs old c.next.new.self old.kept (Err c.in-Err.refusal) =
    subst (λ (r : Result (Option Reply) TextError). NextReplyIs old c.next.new.self old.kept r)
    c.in-Err.is (c.next.ensures.answer old.kept refl) in
    subst (λ (f : WorkerError). NextIs old.kept (Err f) c.next.new.self) (sym c.fault_of.ensures)
    (next_refused old c.next.new.self c.in-Err.refusal c.requires next)
