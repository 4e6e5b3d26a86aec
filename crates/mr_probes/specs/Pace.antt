-- When requests are due.
use Rattle.std.specs.Prelude.{ℕ, ◌-◌, ◌/◌, max}
use Rattle.mr_counting.specs.Counting.{sum_of}
use Rattle.mr_probes.specs.declared.pace.Pace.{Pace}

-- so many requests a second, and the first one at once
abbrev pub pace_at : ℕ → Pace
pace_at rate = record { gap = max (1000000 / max rate 1) 1; next = 0 }

-- behind a request that was issued at this time: of the time that went by without one, no more than 50 milliseconds are made up for
abbrev pub pace_after : ℕ → Pace → Pace
pace_after now pace = record pace { next = max (sum_of pace.next pace.gap) (now - 50000) }
