-- What a watcher of the clock finds.
use Rattle.std.specs.Prelude.{◌≡◌, ℕ, max, nat_lt, List, Option, None, Some, if◌then◌else◌}
use Rattle.mr_phases.specs.Schedule.{Hop, hop_of, phase_of}
use Rattle.mr_log.specs.declared.happening.Happening.{Happening}
use Rattle.mr_log.specs.declared.happening.Happening.TheVariants.{PhaseEntered, NoClock, ClockWentBack}
use Rattle.mr_log.specs.declared.watcher.Seen.{Seen}

-- a watcher
pub record WatcherView : Type 0 where
  -- the migrations by which readings are judged, if they are by any
  pub hops : Option (List Hop)
  -- the last reading
  pub last : Option ℕ
  -- the latest one, which is another where the clock went back
  pub greatest : Option ℕ

-- a watcher that has seen no reading
abbrev pub new_watcher : Option (List Hop) → WatcherView
new_watcher hops = record { hops = hops; last = None; greatest = None }

-- the phase of a reading is told
abbrev pub entered_at : List Hop → ℕ → Happening
entered_at hops reading = PhaseEntered (hop_of hops reading) (phase_of hops reading)

-- both readings stand in the same phase of the same migration
pub record IsSameStanding (hops : List Hop) (reading later : ℕ) : Type 0 where
  pub hop : hop_of hops reading ≡ hop_of hops later
  pub phase : phase_of hops reading ≡ phase_of hops later

-- what is told of the phase of a reading: nothing without migrations, nor where the reading before stood there too
abbrev pub PhaseNews : Option (List Hop) → Option ℕ → ℕ → Option Happening → Type 0
PhaseNews None last now news = news ≡ None
PhaseNews (Some hops) None now news = news ≡ Some (entered_at hops now)
PhaseNews (Some hops) (Some last) now None = IsSameStanding hops last now
PhaseNews (Some hops) (Some last) now (Some happening) = (¬ IsSameStanding hops last now) × (happening ≡ entered_at hops now)

-- what is told of a reading beside the latest one before: that the clock went back, where it is earlier
abbrev pub went_back : Option ℕ → ℕ → Option Happening
went_back None now = None
went_back (Some greatest) now = if nat_lt now greatest then Some (ClockWentBack greatest now) else None

-- the later of a reading and the latest one before
abbrev pub later_of : Option ℕ → ℕ → ℕ
later_of None now = now
later_of (Some greatest) now = max greatest now

-- what a look at the clock finds
abbrev pub IsSeen : WatcherView → Option ℕ → Seen → Type 0
IsSeen watcher None seen = (seen.clock ≡ Some NoClock) × (seen.phase ≡ None)
IsSeen watcher (Some now) seen = (seen.clock ≡ went_back watcher.greatest now) × PhaseNews watcher.hops watcher.last now seen.phase

-- a watcher after a look
abbrev pub watched : WatcherView → Option ℕ → WatcherView
watched watcher None = watcher
watched watcher (Some now) = record { hops = watcher.hops; last = Some now; greatest = Some (later_of watcher.greatest now) }
