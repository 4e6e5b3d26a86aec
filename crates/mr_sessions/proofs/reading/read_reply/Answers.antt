use Rattle.std.proofs.Common.{◌-◌, Option, None, Ok, refl, subst, arith}
use Rattle.std.proofs.lemmas.Result.{err_from_is_err_and}
use Rattle.mr_text.specs.declared.reply.Reply.{Reply}
use Rattle.mr_sessions.specs.steps.Reading.{NextIs}
use Rattle.mr_sessions.proofs.ReadLemmas.{reading_begins, fed, unfed}
use Rattle.mr_sessions.proofs.reading.read_reply.Goals as goal

pub reply-init : goal.reply-init
reply-init g c = reading_begins c.args.turns c.args.replies.now.kept (g.S.Source.told c.args.reader.now) c.args.replies.now refl c.requires

pub reply-preserved : goal.reply-preserved
reply-preserved g c =
    let next : NextIs c.reply.replies.kept (Ok None) c.next_reply.new.replies =
    subst (λ (o : Option Reply). NextIs c.reply.replies.kept (Ok o) c.next_reply.new.replies) c.in_default.is c.in_ok-reply.ensures in
    fed c.args.turns c.args.replies.now.kept (g.S.Source.told c.args.reader.now) c.reply.turns_left c.reply.replies (g.S.Source.told c.reply.reader)
    c.reply.invariant (c.reply.turns_left - 1) (omega arith) c.next_reply.new.replies next c.feed_replies.new.replies (g.S.Source.told c.feed_replies.new.reader)
    c.in_ok-feed_replies.ensures

pub returns-in_err-feed_replies : goal.returns-in_err-feed_replies
returns-in_err-feed_replies g c =
    let next : NextIs c.reply.replies.kept (Ok None) c.next_reply.new.replies =
    subst (λ (o : Option Reply). NextIs c.reply.replies.kept (Ok o) c.next_reply.new.replies) c.in_default.is c.in_ok-reply.ensures in
    let p = err_from_is_err_and c.from_residual-in_err-feed_replies.result c.from_residual-in_err-feed_replies.ensures.1 in
    rw (p.1, p.2) (unfed c.args.turns c.args.replies.now.kept (g.S.Source.told c.args.reader.now) c.reply.turns_left c.reply.replies
    (g.S.Source.told c.reply.reader) c.reply.invariant (c.reply.turns_left - 1) (omega arith) c.next_reply.new.replies next c.feed_replies.new.replies
    (g.S.Source.told c.feed_replies.new.reader) c.in_err-feed_replies.field-0.0 c.in_err-feed_replies.ensures)
