use Rattle.mr_sessions.proofs.ExchangeLemmas.{was_asked, answered}
use Rattle.mr_sessions.proofs.exchange.exchange.Goals as goal

pub returns-clause-did : goal.returns-clause-did
returns-clause-did g c =
    let asked = was_asked c.args.command.now (g.W.Sink.told c.args.writer.now) (g.W.Sink.told c.write_command.new.writer) c.write_command.result
    c.write_command.ensures.text c.write_command.ensures.calls c.if-is_err.ensures.negation in
    answered c.args.turns c.args.command.now (g.S.Source.told c.args.reader.now) (g.S.Source.told c.read_reply.new.reader)
    (g.W.Sink.told c.args.writer.now) (g.W.Sink.told c.write_command.new.writer) c.args.replies.now.kept c.read_reply.new.replies asked
    c.in_ok-reply.reply c.leg_reply_of.result c.ok_or.result c.in_ok-reply.ensures c.leg_reply_of.ensures c.ok_or.ensures.value
