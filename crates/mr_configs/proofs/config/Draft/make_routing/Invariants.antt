use Rattle.std.proofs.Common.{◌≡◌, ◌+◌, ◌++◌, length, map, drop}
use Rattle.mr_configs.specs.Chain.{pools_after}
use Rattle.mr_configs.specs.Draft.{pools_drafted}
use Rattle.mr_configs.specs.MigrationDraft.{migration_drafted}
use Rattle.mr_configs.proofs.config.Draft.make_routing.Given as goal

-- the pools so far, and those of the migrations that are left
abbrev pub invariant-loop-migration : goal.invariant-loop-migration
invariant-loop-migration l = record {
  pools : l.routing.pools ++ pools_after (map migration_drafted (drop l.migration-index l.migration-items)) ≡ pools_drafted l.self;
  count : length l.routing.pools ≡ l.migration-index + 2;
  hash : l.routing.hash ≡ l.self.hash;
}
