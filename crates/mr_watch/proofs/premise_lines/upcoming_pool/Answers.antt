use Rattle.std.proofs.Common.{arith}
use Rattle.mr_watch.proofs.UpcomingLemmas.{upcoming-more, upcoming-end}
use Rattle.mr_watch.proofs.premise_lines.upcoming_pool.Goals as goal

pub loop-hop-preserved : goal.loop-hop-preserved
loop-hop-preserved c =
    upcoming-more c.args.schedule.now c.args.proxies.now c.loop-hop.hop c.loop-hop.first c.or_pool-first.result c.are_before-here.result c.start.result
    c.loop-hop.invariant c.start.ensures.start c.are_before-here.ensures c.or_pool-first.ensures

pub returns : goal.returns
returns c =
    upcoming-end c.args.schedule.now c.args.proxies.now c.loop-hop.hop c.loop-hop.first c.loop-hop.invariant (omega arith) (omega arith)
