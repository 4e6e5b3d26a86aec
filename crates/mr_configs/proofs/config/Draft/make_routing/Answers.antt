use Rattle.mr_configs.proofs.PoolLemmas.{next_stands_apart}
use Rattle.mr_configs.proofs.config.Draft.make_routing.Goals as goal

pub make_routing_onto-requires-clause-apart : goal.make_routing_onto-requires-clause-apart
make_routing_onto-requires-clause-apart c =
    next_stands_apart c.loop-migration.routing.pools _ c.loop-migration.migration-index c.migration-item.result _
    c.loop-migration.invariant.pools c.requires.apart c.loop-migration-test.true c.migration-item.is
