use Rattle.std.proofs.Common.{◌≡◌, map, drop}
use Rattle.serde_json.specs.View.{view}
use Rattle.mr_configs.specs.Chain.{pools_after, is_apart_from}
use Rattle.mr_configs.specs.MigrationDraft.{migration_drafted}
use Rattle.mr_configs.specs.Pools.{names_in}
use Rattle.mr_configs.proofs.migration.is_apart_from.Given as goal

abbrev pub invariant-loop-migration : goal.invariant-loop-migration
invariant-loop-migration l =
    is_apart_from (names_in (map view l.pool)) (pools_after (map migration_drafted l.migrations))
    ≡ is_apart_from (names_in (map view l.pool)) (pools_after (map migration_drafted (drop l.migration-index l.migrations)))
