-- The times of a hop by its number. No clause of a public call cites these definitions.
use Rattle.std.specs.Prelude.{ℕ, ◌+◌, ◌*◌, ◌==◌, List, length, nat_lt, Option, None, if◌then◌else◌}
use Rattle.mr_phases.specs.Schedule.{Hop, start_at, interval_at}
use Rattle.mr_configs.specs.Timeline.{span_before, time_until, times_of}
use Rattle.mr_configs.specs.declared.times.Span.{Span}
use Rattle.mr_configs.specs.declared.times.NewOnlyTime.{NewOnlyTime}
use Rattle.mr_configs.specs.declared.times.NewOnlyTime.TheVariants.{Since}
use Rattle.mr_configs.specs.declared.times.PhaseTimes.{PhaseTimes}

-- only the first hop has a time before it
abbrev pub old_only_at : List Hop → ℕ → Option Span
old_only_at hops number = if number == 0 then span_before (start_at hops 0) else None

-- where the middle phases of a hop end
abbrev pub end_at : List Hop → ℕ → ℕ
end_at hops number = start_at hops number + 2 * interval_at hops number

-- until the next hop starts, if there is one
abbrev pub new_only_at : List Hop → ℕ → NewOnlyTime
new_only_at hops number =
    if nat_lt (number + 1) (length hops) then time_until (end_at hops number) (start_at hops (number + 1))
    else Since (end_at hops number)

abbrev pub times_at : List Hop → ℕ → PhaseTimes
times_at hops number =
    times_of (old_only_at hops number) (record { start = start_at hops number; interval = interval_at hops number }) (new_only_at hops number)
