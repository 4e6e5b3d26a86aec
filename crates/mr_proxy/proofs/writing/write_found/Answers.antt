use Rattle.mr_text.proofs.Gathered.{sent_at_last}
use Rattle.mr_proxy.proofs.writing.write_found.Goals as goal

pub returns-clause-text : goal.returns-clause-text
returns-clause-text g c = sent_at_last _ _ _ _ _ _ _ c.clear.ensures c.in_ok-put_found.ensures.text c.send.ensures.text
