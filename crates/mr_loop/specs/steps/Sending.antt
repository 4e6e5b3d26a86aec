-- How legs that were put to their links are taken back, the last one first.
use Rattle.std.specs.Prelude.{ℕ, ◌-◌, Bool, true, ◌&&◌, List, [], ◌∷◌, length, take, Option, Some, None, slice_get, slice_set, if◌then◌else◌}
use Rattle.mr_pools.specs.Routing.{RoutingView}
use Rattle.mr_loop.specs.Links.{is_up_at, link_of}
use Rattle.mr_loop.specs.declared.link.Link.{Link}
use Rattle.mr_loop.specs.declared.sending.Mark.{Mark}
use Rattle.mr_loop.specs.declared.sent_legs.SentLeg.{SentLeg}

-- each has a link that is up
abbrev pub each_up : RoutingView → List SentLeg → List Link → Bool
each_up routing [] links = true
each_up routing (sent ∷ sents) links = is_up_at links (link_of routing sent.leg) && each_up routing sents links

-- what a link's mark tells
abbrev pub mark_of : ℕ → Link → Mark
mark_of number link = record { number = number; count = length link.out; lost = link.counts.lost }

-- the leg is taken back that went last, or that couldn't go
abbrev pub without_last : Mark → Link → Link
without_last mark link =
    if link.is_up then record link { legs = take (length link.legs - 1) link.legs; out = take mark.count link.out }
    else record link { counts = record link.counts { lost = mark.lost } }

abbrev pub undone_in : Option Link → Mark → List Link → List Link
undone_in None mark links = links
undone_in (Some link) mark links = slice_set links mark.number (without_last mark link)

abbrev pub undone_one : Mark → List Link → List Link
undone_one mark links = undone_in (slice_get links mark.number) mark links

-- all that these marks tell of is taken back
abbrev pub undone : List Mark → List Link → List Link
undone [] links = links
undone (mark ∷ marks) links = undone_one mark (undone marks links)
