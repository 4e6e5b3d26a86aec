-- What is told of links.
use Rattle.std.proofs.Common.{◌≡◌, ℕ, ◌+◌, ◌<◌, [], ◌∷◌, ◌++◌, List, length, get_or, take, map, refl, ap}
use Rattle.std.specs.Prelude.{Bool, slice_get}
use Rattle.std.proofs.lemmas.List.{map_more}
use Rattle.std.proofs.lemmas.Option.{slice_get-get_or}
use Rattle.mr_loop.specs.declared.link.Link.{Link}
use Rattle.mr_loop.specs.declared.link_counts.LinkCounts.{LinkCounts}
use Rattle.mr_loop.specs.Counts.{no_link_counts}
use Rattle.mr_loop.specs.Links.{down_link, is_up_at, is_up_in}
use Rattle.mr_loop.specs.LoopView.{link_counts_in}
use Rattle.mr_driver.specs.declared.reports.LinkReport.{LinkReport}
use Rattle.mr_driver.specs.Reports.{link_report}

-- what is told of the link at a place
there_told : (links : List Link) (node : ℕ) (d : Link) → node < length links
    → record { is_up = is_up_at links node; counts = link_counts_in (slice_get links node) } ≡ link_report (get_or links node d)
there_told links node d within =
    ap (λ there. record { is_up = is_up_in there; counts = link_counts_in there }) (slice_get-get_or links node d within)

-- one more link was told of
pub one_more_told : (links : List Link) (node : ℕ) (before after : List LinkReport) (is_up : Bool) (counts : LinkCounts) → node < length links
    → before ≡ map link_report (take node links) → is_up ≡ is_up_at links node → counts ≡ link_counts_in (slice_get links node)
    → after ≡ before ++ record { is_up = is_up; counts = counts } ∷ [] → after ≡ map link_report (take (node + 1) links)
one_more_told links node before after is_up counts within told up counted more =
    let d : Link = down_link no_link_counts in
    let there = there_told links node d within in
    let step = map_more link_report links node d within in
    rw more (rw step (rw told (rw up (rw counted (rw there refl)))))
