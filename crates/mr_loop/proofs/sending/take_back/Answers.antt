use Rattle.std.proofs.Common.{get_or}
use Rattle.std.proofs.lemmas.Option.{slice_get-get_or}
use Rattle.mr_loop.proofs.SentLemmas.{back_one}
use Rattle.mr_loop.proofs.sending.take_back.Goals as goal

pub returns-then-mark-links : goal.returns-then-mark-links
returns-then-mark-links c =
    back_one c.args.links.now c.args.mark (get_or c.args.links.now c.args.mark.number c.index-links-mark.result) c.take_back.new.self
    (slice_get-get_or c.args.links.now c.args.mark.number c.index-links-mark.result c.if-mark-links.true) c.take_back.ensures
