use Rattle.std.proofs.Common.{◌≡◌, drop}
use Rattle.mr_servers.specs.Reports.{with_links}
use Rattle.mr_servers.proofs.reports.add_links.Given as goal

-- the links so far are added
abbrev pub invariant-loop-link : goal.invariant-loop-link
invariant-loop-link l = record {
  added : with_links l.number (drop l.link-index l.links) l.totals ≡ with_links 0 l.links l.initial.totals;
  number : l.number ≡ l.link-index;
}
