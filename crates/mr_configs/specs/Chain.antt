-- Migrations in a row, as a configuration says them: the first leaves a pool, and each takes its keys on to the next.
use Rattle.std.specs.Prelude.{ℕ, ◌+◌, ◌*◌, ◌^◌, ◌==◌, List, [], ◌∷◌, ◌++◌, map, nat_le, nat_lt, Bool, true, ◌&&◌, if◌then◌else◌, Result, Ok, Err}
use Rattle.mr_phases.specs.Schedule.{Hop, one_hop, chain_end}
use Rattle.mr_phases.specs.declared.error.ScheduleError.TheVariants.{ZeroInterval, TooLate, TooSoon}
use Rattle.mr_configs.specs.Checking.{◌>>=◌}
use Rattle.mr_configs.specs.Fields.{Text}
use Rattle.mr_configs.specs.Pools.{stand_apart}
use Rattle.mr_configs.specs.declared.error.PlanError.{PlanError}
use Rattle.mr_configs.specs.declared.error.PlanError.TheVariants.{BadSchedule}

-- a migration: the names of the pool that takes over, and when, in seconds
pub record Migration : Type 0 where
  pub new : List Text
  pub start : ℕ
  pub interval : ℕ

-- migrations in a row: the names of the first pool, and each migration
pub record Chain : Type 0 where
  -- the names of the pool that the first migration leaves
  pub first : List Text
  pub migrations : List Migration

-- no migration leaves the pool yet
abbrev pub chain_at : List Text → Chain
chain_at first = record { first = first; migrations = [] }

-- one migration more, behind the others
abbrev pub chain_with : Chain → Migration → Chain
chain_with chain migration = record { first = chain.first; migrations = chain.migrations ++ migration ∷ [] }

-- the pools that take over, in order
abbrev pub pools_after : List Migration → List (List Text)
pools_after migrations = map (λ migration. migration.new) migrations

-- the pools of a chain: migration j moves from pool j to pool j + 1
abbrev pub pools_of : Chain → List (List Text)
pools_of chain = chain.first ∷ pools_after chain.migrations

-- no name of this pool stands in one of the others
abbrev pub is_apart_from : List Text → List (List Text) → Bool
is_apart_from pool [] = true
is_apart_from pool (other ∷ others) = stand_apart pool other && is_apart_from pool others

-- no name stands in two of the pools
abbrev pub are_all_apart : List (List Text) → Bool
are_all_apart [] = true
are_all_apart (pool ∷ pools) = is_apart_from pool pools && are_all_apart pools

-- the schedule with one migration more, which may begin no earlier than the last has ended
abbrev pub schedule_with : List Hop → Migration → Result (List Hop) PlanError
schedule_with hops migration =
    if migration.interval == 0 then Err (BadSchedule ZeroInterval)
    else if nat_le (2 ^ 64) (migration.start + 2 * migration.interval) then Err (BadSchedule TooLate)
    else if nat_lt migration.start (chain_end hops) then Err (BadSchedule TooSoon)
    else Ok (hops ++ one_hop migration.start migration.interval)

-- the schedule that goes on with these migrations, or the first of the refusals
abbrev pub schedule_from : List Hop → List Migration → Result (List Hop) PlanError
schedule_from hops [] = Ok hops
schedule_from hops (migration ∷ migrations) = schedule_with hops migration >>= λ longer. schedule_from longer migrations

-- the schedule of migrations, which are looked at from the first to the last
abbrev pub schedule_of : List Migration → Result (List Hop) PlanError
schedule_of migrations = schedule_from [] migrations
