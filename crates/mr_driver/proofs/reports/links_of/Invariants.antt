use Rattle.std.proofs.Common.{◌≡◌, take, map}
use Rattle.mr_driver.specs.Reports.{link_report}
use Rattle.mr_driver.proofs.reports.links_of.Given as goal

-- the links so far are told of
abbrev pub invariant-loop-node : goal.invariant-loop-node
invariant-loop-node l = l.reports.items ≡ map link_report (take l.node l.machine.links)
