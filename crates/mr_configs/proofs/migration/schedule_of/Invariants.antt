use Rattle.std.proofs.Common.{◌≡◌, ◌+◌, length, map, drop}
use Rattle.mr_configs.specs.Chain.{schedule_from, schedule_of}
use Rattle.mr_configs.specs.MigrationDraft.{migration_drafted}
use Rattle.mr_configs.proofs.migration.schedule_of.Given as goal

-- the migrations so far are in the schedule
abbrev pub invariant-loop-migration : goal.invariant-loop-migration
invariant-loop-migration l = record {
  rest : schedule_of (map migration_drafted l.migrations)
      ≡ schedule_from l.schedule (map migration_drafted (drop l.migration-index l.migration-items));
  hops : length l.schedule ≡ l.migration-index + 1;
}
