use Rattle.std.proofs.Common.{◌<◌, length, arith}
use Rattle.mr_driver.proofs.ReportLemmas.{one_more_told}
use Rattle.mr_driver.proofs.reports.links_of.Goals as goal

pub loop-node-preserved : goal.loop-node-preserved
loop-node-preserved c =
    let links = c.args.machine.now.links in
    let within : c.loop-node.node < length links = omega arith in
    one_more_told links c.loop-node.node c.loop-node.reports.items c.push.new.self.items c.is_up.result c.link_counts.result
    within c.loop-node.invariant c.is_up.ensures c.link_counts.ensures c.in_ok-push.ensures.items
