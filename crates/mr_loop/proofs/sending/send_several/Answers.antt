use Rattle.std.proofs.Common.{[]}
use Rattle.mr_loop.proofs.TravelLemmas.{if_up}
use Rattle.mr_loop.proofs.sending.send_several.Goals as goal

pub returns-clause-up : goal.returns-clause-up
returns-clause-up c = if_up c.args.asker c.args.routing.now c.args.legs.now.items c.args.links.now _ c.send_each.result c.in_ok-put_together.ensures c.send_each.ensures.up
