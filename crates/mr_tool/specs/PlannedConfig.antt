-- The configuration of a plan: that of a file, or the one migration that six words say.
use Rattle.std.specs.Prelude.{◌≡◌, ⊤, ℕ, ◌+◌, ◌*◌, ◌^◌, ◌<◌, ◌≤◌, ◌⊎◌, List, All, Result, Ok, Err}
use Rattle.mr_configs.specs.Config.{ConfigView}
use Rattle.mr_phases.specs.Schedule.{one_hop}
use Rattle.mr_phases.specs.declared.error.ScheduleError.{ScheduleError}
use Rattle.mr_phases.specs.declared.error.ScheduleError.TheVariants.{ZeroInterval, TooLate}
use Rattle.mr_pools.specs.NodeName.{IsNodeName}
use Rattle.mr_pools.specs.Pool.{IsPoolOf}
use Rattle.mr_pools.specs.Routing.{RoutingView, IsRoutingOf}
use Rattle.mr_pools.specs.declared.error.PoolError.{PoolError}
use Rattle.mr_pools.specs.declared.error.PoolError.TheVariants.{BadName, OutOfMemory}
use Rattle.mr_tool.specs.Input.{LoadsConfig}
use Rattle.mr_tool.specs.Sources.{SourcesView}
use Rattle.mr_tool.specs.declared.fault.Fault.{Fault}
use Rattle.mr_tool.specs.declared.fault.Fault.TheVariants.{Memory, Pools, Phases}
use Rattle.mr_words.specs.Words.{members_of}
use Rattle.mr_words.specs.declared.plan_words.MigrationWords.{MigrationWords}
use Rattle.mr_words.specs.declared.plan_words.Planned.{Planned}
use Rattle.mr_words.specs.declared.plan_words.Planned.TheVariants.{InFile, InWords}

-- what stands between the commas of the word can name nodes
abbrev pub SaysNames : List ℕ → Type 0
SaysNames word = All IsNodeName (members_of word)

-- The pool that a word says, of the names between its commas, or the first of its refusals: a name that can't be a node's, then
-- those of the pool. Memory may be refused meanwhile.
abbrev pub SaysPool : List ℕ → Result (List (List ℕ)) PoolError → Type 0
SaysPool word (Err OutOfMemory) = ⊤
SaysPool word (Err BadName) = ¬ SaysNames word
SaysPool word result = SaysNames word × IsPoolOf (members_of word) result

-- both words say a pool, and this comes of the routing from the old one to the new one: SharedName, where it is refused
pub record SaysRouting (words : MigrationWords) (result : Result RoutingView PoolError) : Type 0 where
  pub old : List (List ℕ)
  pub new : List (List ℕ)
  pub old_is : SaysPool words.old.now (Ok old)
  pub new_is : SaysPool words.new.now (Ok new)
  pub is_routing : IsRoutingOf old new words.hash result

-- the word of the old pool says one, and that of the new pool says none, for this refusal
pub record RefusesNewPool (words : MigrationWords) (refusal : PoolError) : Type 0 where
  pub old : List (List ℕ)
  pub old_is : SaysPool words.old.now (Ok old)
  pub refused : SaysPool words.new.now (Err refusal)

-- why words say no routing: the first of the refusals of the old pool, of the new pool, and of both together
abbrev pub RefusesRouting : MigrationWords → PoolError → Type 0
RefusesRouting words refusal =
    SaysPool words.old.now (Err refusal) ⊎ RefusesNewPool words refusal ⊎ SaysRouting words (Err refusal)

-- why a start and an interval, in seconds, make no schedule of one migration
abbrev pub RefusesSchedule : ℕ → ℕ → ScheduleError → Type 0
RefusesSchedule start interval ZeroInterval = interval ≡ 0
RefusesSchedule start interval TooLate = (0 < interval) × (2 ^ 64 ≤ start + 2 * interval)
RefusesSchedule start interval refusal = ⊥

-- the words say this configuration, of one migration
pub record SaysMigration (words : MigrationWords) (config : ConfigView) : Type 0 where
  pub routing : SaysRouting words (Ok config.routing)
  pub lasts : 0 < words.interval
  pub ends : words.start + 2 * words.interval < 2 ^ 64
  pub schedule : config.schedule ≡ one_hop words.start words.interval

-- the words say a routing, and their schedule is refused
pub record RefusesTimes (words : MigrationWords) (refusal : ScheduleError) : Type 0 where
  pub routing : RoutingView
  pub says : SaysRouting words (Ok routing)
  pub refused : RefusesSchedule words.start words.interval refusal

-- The configuration that words say, or the first of the refusals in this order: those of the old pool, those of the new pool, of
-- both together, of the schedule. Memory may be refused meanwhile.
abbrev pub SaysConfig : MigrationWords → Result ConfigView Fault → Type 0
SaysConfig words (Ok config) = SaysMigration words config
SaysConfig words (Err (Pools refusal)) = RefusesRouting words refusal
SaysConfig words (Err (Phases refusal)) = RefusesTimes words refusal
SaysConfig words (Err Memory) = ⊤
SaysConfig words (Err fault) = ⊥

-- what comes of looking for the configuration of a plan: the file's is loaded once, and for one in words no file is asked for
abbrev pub PlansConfig : Planned → SourcesView → Result ConfigView Fault → SourcesView → Type 0
PlansConfig (InFile path) before result after = LoadsConfig path.now before result after
PlansConfig (InWords words) before result after = SaysConfig words result × (after ≡ before)
