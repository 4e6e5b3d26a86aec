use Rattle.std.proofs.Common.{◌≡◌, drop}
use Rattle.mr_counting.specs.LoopTotals.{nodes_in, no_totals}
use Rattle.mr_servers.specs.Reports.{with_reports}
use Rattle.mr_servers.proofs.reports.totals_of.Given as goal

-- the loops so far are added
abbrev pub invariant-loop-report : goal.invariant-loop-report
invariant-loop-report l =
    with_reports (drop l.report-index l.reports) l.totals ≡ with_reports l.reports (no_totals (nodes_in l.routing))
