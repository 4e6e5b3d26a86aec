use Rattle.std.proofs.Common.{rules, false}
use Rattle.mr_text.specs.Canonical.{canonical_request}
use Rattle.mr_text.specs.Gathering.{HasGathered}
use Rattle.mr_text.specs.declared.request.Request.TheVariants.{Set}
use Rattle.mr_text.proofs.Gathered.{sent_at_last}
use Rattle.mr_text.proofs.writing.send_set.Goals as goal

pub returns-clause-text : goal.returns-clause-text
returns-clause-text g c =
    let text = canonical_request (Set c.args.key.now c.args.flags c.args.exptime c.args.block.now false) in
    let done : HasGathered text c.clear.new.self (g.W.Sink.told c.args.writer.now) c.put_set.new.buffer (g.W.Sink.told c.put_set.new.writer) = search rules in
    sent_at_last text _ _ _ _ _ _ c.clear.ensures done c.send.ensures.text
