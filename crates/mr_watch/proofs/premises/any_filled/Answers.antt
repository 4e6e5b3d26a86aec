use Rattle.std.proofs.Common.{length, arith}
use Rattle.mr_watch.specs.Premises.{was_filled}
use Rattle.mr_watch.proofs.PremiseLemmas.{any_below-more, any_below-end}
use Rattle.mr_watch.proofs.premises.any_filled.Goals as goal

pub loop-hop-preserved : goal.loop-hop-preserved
loop-hop-preserved c = any_below-more _ c.loop-hop.hop _ _ c.loop-hop.invariant c.was_filled-filled.ensures

pub returns : goal.returns
returns c =
    let test = was_filled c.args.schedule.now c.args.proxies.now c.args.nodes.now in
    any_below-end test c.loop-hop.hop (length c.args.schedule.now) c.loop-hop.filled c.loop-hop.invariant (omega arith) (omega arith)
