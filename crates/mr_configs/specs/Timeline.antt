-- When each phase of each hop is, and what a list of clocks' readings says of a chain of migrations.
use Rattle.std.specs.Prelude.{◌≡◌, ℕ, ◌+◌, ◌-◌, ◌*◌, ◌≤◌, ◌↔◌, ◌==◌, Bool, List, [], ◌∷◌, map, nat_le, nat_lt, Option, Some, None, slice_get, if◌then◌else◌}
use Rattle.mr_clock.specs.Readings.{spread_of}
use Rattle.mr_phases.specs.Schedule.{Hop, least_interval, hop_of, phase_of}
use Rattle.mr_phases.specs.declared.phase_name.PhaseName.{PhaseName}
use Rattle.mr_phases.specs.declared.phase_name.PhaseName.TheVariants.{OldOnly, BothReadOld, BothReadNew, NewOnly}
use Rattle.mr_configs.specs.declared.times.Span.{Span}
use Rattle.mr_configs.specs.declared.times.NewOnlyTime.{NewOnlyTime}
use Rattle.mr_configs.specs.declared.times.NewOnlyTime.TheVariants.{Never, Within, Since}
use Rattle.mr_configs.specs.declared.times.PhaseTimes.{PhaseTimes}
use Rattle.mr_configs.specs.declared.advice.Standing.{Standing}

-- the reading stands in the span
abbrev pub IsWithin : Span → ℕ → Type 0
IsWithin span t = (span.first ≤ t) × (t ≤ span.last)

-- the reading stands in the span, and there is one
abbrev pub IsWithinAny : Option Span → ℕ → Type 0
IsWithinAny None t = ⊥
IsWithinAny (Some span) t = IsWithin span t

-- the reading stands in the last phase of a hop, which ends where the next hop starts, if one follows
abbrev pub IsNewOnly : NewOnlyTime → ℕ → Type 0
IsNewOnly Never t = ⊥
IsNewOnly (Within span) t = IsWithin span t
IsNewOnly (Since first) t = first ≤ t

-- the readings of a phase of one hop, by its entry in a timeline
abbrev pub IsTimeOf : PhaseTimes → PhaseName → ℕ → Type 0
IsTimeOf times OldOnly t = IsWithinAny times.old_only t
IsTimeOf times BothReadOld t = IsWithin times.both_read_old t
IsTimeOf times BothReadNew t = IsWithin times.both_read_new t
IsTimeOf times NewOnly t = IsNewOnly times.new_only t

-- the readings of a phase of a hop, by its entry, if there is one
abbrev pub IsTimeIn : Option PhaseTimes → PhaseName → ℕ → Type 0
IsTimeIn None phase t = ⊥
IsTimeIn (Some times) phase t = IsTimeOf times phase t

-- the timeline has each reading in its phase of the hop in force, and nowhere else
abbrev pub TellsPhases : List Hop → List PhaseTimes → Type 0
TellsPhases schedule timeline = (hop : ℕ) (phase : PhaseName) (t : ℕ)
    → ((hop_of schedule t ≡ hop) × (phase_of schedule t ≡ phase)) ↔ IsTimeIn (slice_get timeline hop) phase t

-- the time before a hop that starts then, none where it starts at 0
abbrev pub span_before : ℕ → Option Span
span_before start = if start == 0 then None else Some (record { first = 0; last = start - 1 })

-- the time from the end of a hop's middle phases until the next hop starts, which may be at once
abbrev pub time_until : ℕ → ℕ → NewOnlyTime
time_until end next = if nat_lt end next then Within (record { first = end; last = next - 1 }) else Never

-- the times of a hop, of which the first and the last are given
abbrev pub times_of : Option Span → Hop → NewOnlyTime → PhaseTimes
times_of old_only h new_only = record {
  old_only = old_only;
  both_read_old = record { first = h.start; last = h.start + h.interval - 1 };
  both_read_new = record { first = h.start + h.interval; last = h.start + 2 * h.interval - 1 };
  new_only = new_only;
}

-- hop by hop: the last phase of a hop ends where the next hop starts, which has no phase before that
abbrev pub times_from : Option Span → Hop → List Hop → List PhaseTimes
times_from old_only h [] = times_of old_only h (Since (h.start + 2 * h.interval)) ∷ []
times_from old_only h (g ∷ gs) = times_of old_only h (time_until (h.start + 2 * h.interval) g.start) ∷ times_from None g gs

-- the times of the phases of each hop
abbrev pub timeline_of : List Hop → List PhaseTimes
timeline_of [] = []
timeline_of (h ∷ hs) = times_from (span_before h.start) h hs

-- the hop in force at a reading, and its phase
abbrev pub standing_at : List Hop → ℕ → Standing
standing_at schedule t = record { hop = hop_of schedule t; phase = phase_of schedule t }

-- what is said of clocks' readings
pub record AdviceView : Type 0 where
  -- where each reading stands, in order
  pub standings : List Standing
  -- how far they are apart, in seconds
  pub spread : ℕ
  -- how far they may be apart, in seconds
  pub interval : ℕ
  -- they are no farther apart than that
  pub near : Bool

-- where each reading stands, how far they are apart, and whether that is within the least interval of all hops
abbrev pub advice_of : List Hop → List ℕ → AdviceView
advice_of schedule readings = record {
  standings = map (standing_at schedule) readings;
  spread = spread_of readings;
  interval = least_interval schedule;
  near = nat_le (spread_of readings) (least_interval schedule);
}
