-- What a moment does: links whose node is silent for too long break.
use Rattle.std.specs.Prelude.{ℕ, ◌-◌, Bool, false, List, [], ◌∷◌, nat_lt, if◌then◌else◌}
use Rattle.std.specs.List.{flat_map}
use Rattle.mr_loop.specs.declared.link.Link.{Link}
use Rattle.mr_loop.specs.declared.sent_legs.SentLeg.{SentLeg}
use Rattle.mr_loop.specs.Events.{Event}
use Rattle.mr_loop.specs.Links.{down_link}
use Rattle.mr_loop.specs.Returning.{after_break, give_ups}

-- the first of these legs went longer ago than the bound allows
abbrev pub is_late_in : ℕ → ℕ → List SentLeg → Bool
is_late_in bound now [] = false
is_late_in bound now (sent ∷ later) = nat_lt bound (now - sent.sent_at)

-- the first leg went longer ago than the bound allows
abbrev pub is_late : ℕ → ℕ → Link → Bool
is_late bound now link = is_late_in bound now link.legs

-- a link at a tick: it goes down where it is late
abbrev pub ticked : ℕ → ℕ → Link → Link
ticked bound now link = if is_late bound now link then down_link (after_break now link) else link

-- the requests of a late link's legs are given up
abbrev pub given_up_at : ℕ → ℕ → Link → List Event
given_up_at bound now link = if is_late bound now link then give_ups link.legs else []

-- the requests of all legs over links that are late, in the order of the links
abbrev pub ticks : ℕ → ℕ → List Link → List Event
ticks bound now links = flat_map (given_up_at bound now) links
