-- What the loops of a proxy report of themselves, added up.
use Rattle.std.specs.Prelude.{ℕ, ◌+◌, List, [], ◌∷◌, if◌then◌else◌}
use Rattle.mr_counting.specs.Counting.{sum_of}
use Rattle.mr_counting.specs.LoopTotals.{TotalsView, with_loop, with_link}
use Rattle.mr_counting.specs.declared.link_totals.LinkTotals.{LinkTotals}
use Rattle.mr_driver.specs.declared.reports.LinkReport.{LinkReport}
use Rattle.mr_driver.specs.declared.reports.LoopReport.{LoopReport}
use Rattle.mr_loop.specs.LoopView.{LoopView}

-- what a loop counts of its link to a node
abbrev pub link_counted : LinkReport → LinkTotals
link_counted link = record {
  up = if link.is_up then 1 else 0;
  carried = link.counts.carried;
  lost = link.counts.lost;
  breaks = link.counts.breaks;
  dials = link.counts.dials;
}

-- the links of a loop are added, each to what is counted of its node, from the node of this number on
abbrev pub with_links : ℕ → List LinkReport → TotalsView → TotalsView
with_links number [] totals = totals
with_links number (link ∷ links) totals =
    with_links (number + 1) links (with_link number (link_counted link) link.counts.times totals)

-- a loop is added by what it reports
abbrev pub with_report : LoopReport → TotalsView → TotalsView
with_report report totals = with_links 0 report.links.items (with_loop report.counts report.clients totals)

-- loops are added in order
abbrev pub with_reports : List LoopReport → TotalsView → TotalsView
with_reports [] totals = totals
with_reports (report ∷ reports) totals = with_reports reports (with_report report totals)

-- the rooms of these machines are added, as far as 64 bits count
abbrev pub with_rooms : List LoopView → ℕ → ℕ
with_rooms [] room = room
with_rooms (machine ∷ machines) room = with_rooms machines (sum_of room machine.front.core.room)

-- the room of these machines together
abbrev pub room_of : List LoopView → ℕ
room_of machines = with_rooms machines 0
