-- What is kept of the seconds that were seen.
use Rattle.std.specs.Prelude.{ℕ, ◌+◌, ◌&&◌, ◌==◌, Bool, List, [], ◌∷◌, length, if◌then◌else◌}
use Rattle.mr_counting.specs.Counting.{one_more, sum_of}
use Rattle.mr_flights.specs.declared.showing.Sight.{Sight}
use Rattle.mr_phases.specs.Schedule.{Hop}
use Rattle.mr_phases.specs.declared.phase_name.PhaseName.TheVariants.{NewOnly}
use Rattle.mr_sightings.specs.Table.{is_same_phase, with_tally}
use Rattle.mr_sightings.specs.Tally.{no_tally, tally_sum}
use Rattle.mr_sightings.specs.declared.second.Second.{Second}
use Rattle.mr_sightings.specs.declared.table.Row.{Row}
use Rattle.mr_sightings.specs.declared.tally.Tally.{Tally}

-- what was counted in each phase, and in all of them; how many hits showed what was deleted; how many seconds were in the last phase of
-- the last migration
pub record LogView : Type 0 where
  pub rows : List Row
  pub total : Tally
  pub came_back : ℕ
  pub migrated : ℕ

-- nothing was seen yet
abbrev pub fresh_log : LogView
fresh_log = record { rows = []; total = no_tally; came_back = 0; migrated = 0 }

-- the second is in the last phase of the last migration
abbrev pub is_migrated : List Hop → Second → Bool
is_migrated hops second = (second.hop + 1 == length hops) && is_same_phase second.phase NewOnly

-- with one second more
abbrev pub with_second : List Hop → Second → LogView → LogView
with_second hops second log = record {
  rows = with_tally second.hop second.phase second.tally log.rows;
  total = tally_sum log.total second.tally;
  came_back = sum_of log.came_back second.came_back;
  migrated = if is_migrated hops second then one_more log.migrated else log.migrated;
}

-- seconds that were seen, the last one first
abbrev pub Sights : Type 0
Sights = List Sight

-- what is kept of them
abbrev pub log_of : List Hop → Sights → LogView
log_of hops [] = fresh_log
log_of hops (sight ∷ earlier) = with_second hops sight.second (log_of hops earlier)
