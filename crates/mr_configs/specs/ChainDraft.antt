-- A chain of migrations that was looked at, and is yet to be made.
use Rattle.std.specs.Prelude.{List, map, take, All}
use Rattle.serde_json.specs.View.{view}
use Rattle.mr_configs.specs.Chain.{Chain}
use Rattle.mr_configs.specs.MigrationDraft.{migration_drafted, IsPoolReady, IsMigrationReady}
use Rattle.mr_configs.specs.Pools.{names_in}
use Rattle.mr_configs.specs.declared.chain.ChainDraft.{ChainDraft}
use Rattle.mr_configs.specs.declared.migration.MigrationDraft.{MigrationDraft}

-- the migrations that it has, in order
abbrev pub migrations_in : ChainDraft → List MigrationDraft
migrations_in draft = take draft.count draft.migrations

-- the chain that it becomes
abbrev pub chain_drafted : ChainDraft → Chain
chain_drafted draft =
    record { first = names_in (map view draft.first.now); migrations = map migration_drafted (migrations_in draft) }

-- nothing but want of memory keeps its pools from being made
pub record IsChainReady (draft : ChainDraft) : Type 0 where
  pub first : IsPoolReady (names_in (map view draft.first.now))
  pub others : All IsMigrationReady (migrations_in draft)
