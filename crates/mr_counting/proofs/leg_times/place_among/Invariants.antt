use Rattle.std.proofs.Common.{◌≡◌, ◌+◌, drop}
use Rattle.mr_counting.specs.LegTimes.{place_in}
use Rattle.mr_counting.proofs.leg_times.place_among.Given as goal

-- the time is longer than each bound so far
abbrev pub invariant-loop-bound : goal.invariant-loop-bound
invariant-loop-bound l =
    (l.place ≡ l.bound-index) × (l.place + place_in (drop l.bound-index l.bounds) l.micros ≡ place_in l.bounds l.micros)
