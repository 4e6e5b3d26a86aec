use Rattle.mr_text.proofs.Gathered.{sent_at_last}
use Rattle.mr_proxy.proofs.asking.write_gets.Goals as goal

pub returns : goal.returns
returns g c = sent_at_last _ _ _ _ _ _ _ c.clear.ensures c.in_ok-put_gets.ensures c.send.ensures.text
