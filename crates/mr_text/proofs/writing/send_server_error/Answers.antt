use Rattle.mr_text.specs.Canonical.{canonical_reply}
use Rattle.mr_text.specs.declared.reply.Reply.TheVariants.{ServerError}
use Rattle.mr_text.proofs.Gathered.{sent_at_last}
use Rattle.mr_text.proofs.writing.send_server_error.Goals as goal

pub returns-clause-text : goal.returns-clause-text
returns-clause-text g c = sent_at_last (canonical_reply (ServerError c.args.cause.now)) _ _ _ _ _ _ c.clear.ensures c.in_ok-put_error.ensures.text c.send.ensures.text
