use Rattle.std.proofs.Common.{◌≡◌, drop}
use Rattle.mr_loop.specs.node.Counts.{nothing_served}
use Rattle.mr_servers.specs.NodeTelling.{with_served}
use Rattle.mr_servers.proofs.node_reports.served_by.Given as goal

-- the loops so far are added
abbrev pub invariant-loop-report : goal.invariant-loop-report
invariant-loop-report l = with_served (drop l.report-index l.reports) l.served ≡ with_served l.reports nothing_served
