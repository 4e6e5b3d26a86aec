-- A migration that was looked at, and is yet to be made.
use Rattle.std.specs.Prelude.{◌≡◌, List, map, Ok}
use Rattle.serde_json.specs.View.{view}
use Rattle.mr_configs.specs.Chain.{Migration}
use Rattle.mr_configs.specs.Fields.{Text}
use Rattle.mr_configs.specs.Pools.{names_in, pool_of_names}
use Rattle.mr_configs.specs.declared.migration.MigrationDraft.{MigrationDraft}

-- the migration that it becomes
abbrev pub migration_drafted : MigrationDraft → Migration
migration_drafted draft = record { new = names_in (map view draft.new.now); start = draft.start; interval = draft.interval }

-- the names make the pool that they are
abbrev pub IsPoolReady : List Text → Type 0
IsPoolReady names = pool_of_names names ≡ Ok names

-- nothing but want of memory keeps its pool from being made
abbrev pub IsMigrationReady : MigrationDraft → Type 0
IsMigrationReady draft = IsPoolReady (migration_drafted draft).new
