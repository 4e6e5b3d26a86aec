use Rattle.mr_configs.specs.MigrationDraft.{migration_drafted}
use Rattle.mr_configs.proofs.PoolLemmas.{none_refused}
use Rattle.mr_configs.proofs.config.make_routing_onto.Goals as goal

pub unreachable-requires : goal.unreachable-requires
unreachable-requires c =
    none_refused c.args.routing (migration_drafted c.args.migration.now).new c.in-Err.field-0.0 c.requires.few c.requires.apart
    (rw c.in_ok-pool.ensures at c.in-Err.ensures.0)
