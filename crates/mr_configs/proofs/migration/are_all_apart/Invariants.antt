use Rattle.std.proofs.Common.{◌≡◌, ◌∷◌, map, drop}
use Rattle.serde_json.specs.View.{view}
use Rattle.mr_configs.specs.Chain.{pools_after, are_all_apart}
use Rattle.mr_configs.specs.MigrationDraft.{migration_drafted}
use Rattle.mr_configs.specs.Pools.{names_in}
use Rattle.mr_configs.proofs.migration.are_all_apart.Given as goal

-- the pool that the next migration leaves, and those behind it
abbrev pub invariant-loop-index : goal.invariant-loop-index
invariant-loop-index l =
    are_all_apart (names_in (map view l.first) ∷ pools_after (map migration_drafted l.migrations))
    ≡ are_all_apart (names_in (map view l.pool) ∷ pools_after (map migration_drafted (drop l.index l.migrations)))
