-- Migrations in a row: hop j moves from pool j to pool j + 1. One migration is a list of one hop.
use Rattle.std.specs.Prelude.{ℕ, ◌+◌, ◌*◌, ◌^◌, ◌<◌, ◌≤◌, List, [], ◌∷◌, length, min, nat_lt, if◌then◌else◌, All, Option, None, Some, slice_get}
use Rattle.mr_phases.specs.declared.phase_name.PhaseName.{PhaseName}
use Rattle.mr_phases.specs.declared.phase_name.PhaseName.TheVariants.{OldOnly, BothReadOld, BothReadNew, NewOnly}
use Rattle.mr_phases.specs.declared.hop.Hop as declared

-- one migration: its start, the first second, and its interval, how long each of its two middle phases lasts
-- (from: MigrateRoute)
abbrev pub Hop : Type 0
Hop = declared.Hop

-- the most migrations in a row
abbrev pub most_hops : ℕ
most_hops = 4

-- a schedule of one migration
abbrev pub one_hop : ℕ → ℕ → List Hop
one_hop start interval = record { start = start; interval = interval } ∷ []

-- where a reading stands in a hop: each bound belongs to the later phase (from: MigrateRoute; bounds own)
abbrev pub phase_in : Hop → ℕ → PhaseName
phase_in h t =
    if nat_lt t h.start then OldOnly
    else if nat_lt t (h.start + h.interval) then BothReadOld
    else if nat_lt t (h.start + 2 * h.interval) then BothReadNew
    else NewOnly

-- the range of readings of each phase, half open (from: MigrateRoute; bounds own)
abbrev pub StandsIn : PhaseName → Hop → ℕ → Type 0
StandsIn OldOnly h t = t < h.start
StandsIn BothReadOld h t = (h.start ≤ t) × (t < h.start + h.interval)
StandsIn BothReadNew h t = (h.start + h.interval ≤ t) × (t < h.start + 2 * h.interval)
StandsIn NewOnly h t = h.start + 2 * h.interval ≤ t

-- the number of the hop in force, and its phase
pub record Standing : Type 0 where
  pub hop : ℕ
  pub phase : PhaseName

-- the last hop whose start is reached, else the first, whose number is given
abbrev pub standing_from : ℕ → Hop → List Hop → ℕ → Standing
standing_from number h [] t = record { hop = number; phase = phase_in h t }
standing_from number h (g ∷ gs) t =
    if nat_lt t g.start then record { hop = number; phase = phase_in h t }
    else standing_from (number + 1) g gs t

-- without a hop everything stays in the first pool
abbrev pub standing_of : List Hop → ℕ → Standing
standing_of [] t = record { hop = 0; phase = OldOnly }
standing_of (h ∷ hs) t = standing_from 0 h hs t

-- the number of the hop in force at a reading
abbrev pub hop_of : List Hop → ℕ → ℕ
hop_of hops t = (standing_of hops t).hop

-- the phase of the hop in force at a reading
abbrev pub phase_of : List Hop → ℕ → PhaseName
phase_of hops t = (standing_of hops t).phase

-- of the hop that is there, or 0
abbrev pub start_in : Option Hop → ℕ
start_in None = 0
start_in (Some h) = h.start

-- the interval of the hop that is there, or 0
abbrev pub interval_in : Option Hop → ℕ
interval_in None = 0
interval_in (Some h) = h.interval

-- the start and the interval of the hop of this number, both 0 past the last
abbrev pub start_at : List Hop → ℕ → ℕ
start_at hops number = start_in (slice_get hops number)

-- the interval of the hop of this number
abbrev pub interval_at : List Hop → ℕ → ℕ
interval_at hops number = interval_in (slice_get hops number)

-- the least interval of this hop and those behind it
abbrev pub least_from : Hop → List Hop → ℕ
least_from h [] = h.interval
least_from h (g ∷ gs) = min h.interval (least_from g gs)

-- the least interval of all hops
abbrev pub least_interval : List Hop → ℕ
least_interval [] = 0
least_interval (h ∷ hs) = least_from h hs

-- the end of the last of this hop and those behind it
abbrev pub end_from : Hop → List Hop → ℕ
end_from h [] = h.start + 2 * h.interval
end_from h (g ∷ gs) = end_from g gs

-- the end of the last hop: from there on its new pool is alone
abbrev pub chain_end : List Hop → ℕ
chain_end [] = 0
chain_end (h ∷ hs) = end_from h hs

-- each hop behind this one starts no earlier than the one before it has ended
abbrev pub IsChainFrom : Hop → List Hop → Type 0
IsChainFrom h [] = Unit {0}
IsChainFrom h (g ∷ gs) = (h.start + 2 * h.interval ≤ g.start) × IsChainFrom g gs

-- each hop starts no earlier than the one before it has ended
abbrev pub IsChain : List Hop → Type 0
IsChain [] = Unit {0}
IsChain (h ∷ hs) = IsChainFrom h hs

-- what every schedule keeps: one to four hops, one after the other, each of a second or more, all ended within a u64
-- (from: MigrateRoute; bounds and several in a row own)
pub record IsSchedule (hops : List Hop) : Type 0 where
  pub begins : 0 < length hops
  pub few : length hops ≤ most_hops
  pub chain : IsChain hops
  pub lasts : All (λ h. 0 < h.interval) hops
  pub fits : All (λ h. h.start + 2 * h.interval < 2 ^ 64) hops
