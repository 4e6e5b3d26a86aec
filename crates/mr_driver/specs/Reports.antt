-- What a loop tells of itself.
use Rattle.std.specs.Prelude.{◌≡◌, List, map}
use Rattle.mr_loop.specs.declared.link.Link.{Link}
use Rattle.mr_loop.specs.LoopView.{LoopView, told_counts}
use Rattle.mr_driver.specs.declared.reports.LinkReport.{LinkReport}
use Rattle.mr_driver.specs.declared.reports.LoopReport.{LoopReport}

-- what is told of a link
abbrev pub link_report : Link → LinkReport
link_report link = record { is_up = link.is_up; counts = link.counts }

-- what is told of all links, in order
abbrev pub link_reports : LoopView → List LinkReport
link_reports l = map link_report l.links

-- what a loop tells: its counts, how often clients came and left, and its links
pub record TellsOf (l : LoopView) (report : LoopReport) : Type 0 where
  pub counts : report.counts ≡ told_counts l.front
  pub clients : report.clients ≡ l.client_counts
  pub links : report.links.items ≡ link_reports l
