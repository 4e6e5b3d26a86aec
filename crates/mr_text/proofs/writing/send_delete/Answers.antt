use Rattle.std.proofs.Common.{false}
use Rattle.mr_text.specs.Canonical.{canonical_request}
use Rattle.mr_text.specs.declared.request.Request.TheVariants.{Delete}
use Rattle.mr_text.proofs.Gathered.{sent_at_last}
use Rattle.mr_text.proofs.writing.send_delete.Goals as goal

pub returns-clause-text : goal.returns-clause-text
returns-clause-text g c = sent_at_last (canonical_request (Delete c.args.key.now false)) _ _ _ _ _ _ c.clear.ensures c.in_ok-put_delete.ensures.text c.send.ensures.text
