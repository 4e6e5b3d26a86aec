-- The pace of a loop.
use Rattle.std.specs.Prelude.{ℕ, Bool, ◌&&◌, not, nat_lt, nat_le, if◌then◌else◌}
use Rattle.mr_driver.specs.declared.pace.Pace.{Pace}
use Rattle.mr_driver.specs.Times.{next_at, tick_of}
use Rattle.mr_driver.specs.Waits.{late_turns_after}

-- it is looked at once, and nothing is late
abbrev pub at_first : Pace
at_first = record { next_tick = 0; late_turns = 0 }

-- it has been late for some turns
abbrev pub is_late_in : Pace → Bool
is_late_in p = nat_lt 0 p.late_turns

-- it woke, too late maybe, with more to be heard or read at once or not
abbrev pub woken : Bool → Bool → Pace → Pace
woken is_overslept has_more p = record p { late_turns = late_turns_after p.late_turns is_overslept has_more }

-- it is time to look: the moment has come, and the loop isn't late
abbrev pub is_due_at : ℕ → Pace → Bool
is_due_at now p = not (is_late_in p) && nat_le p.next_tick now

-- the next look is a tick later, where it is time for this one
abbrev pub looked_at : ℕ → ℕ → Pace → Pace
looked_at bound now p = if is_due_at now p then record p { next_tick = next_at now (tick_of bound) } else p
