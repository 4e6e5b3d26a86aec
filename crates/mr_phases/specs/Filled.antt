-- A schedule in the code: an array of four hops, of which so many count.
use Rattle.std.specs.Prelude.{◌≡◌, ℕ, ◌-◌, List, length, take, drop, replicate, min}
use Rattle.mr_phases.specs.Schedule.{Hop, most_hops, IsSchedule}

-- what stands behind the last hop
abbrev pub no_hop : Hop
no_hop = record { start = 0; interval = 0 }

-- so many hops in front are the schedule, and nothing stands behind them
pub record IsFilled (hops : List Hop) (count : ℕ) : Type 0 where
  pub places : length hops ≡ most_hops
  -- so many there are
  pub within : min count (length hops) ≡ count
  pub blank : drop count hops ≡ replicate (most_hops - count) no_hop
  pub schedule : IsSchedule (take count hops)
