use Rattle.std.proofs.Common.{map}
use Rattle.serde_json.specs.View.{view}
use Rattle.mr_configs.specs.Pools.{names_in}
use Rattle.mr_configs.proofs.PoolLemmas.{apart_made}
use Rattle.mr_configs.proofs.config.make_routing_to.Goals as goal

pub unreachable-requires : goal.unreachable-requires
unreachable-requires c =
    c.in-Err.ensures.1 (rw c.in_ok-old.ensures (rw c.in_ok-new.ensures
    (apart_made (names_in (map view c.args.first.now)) (names_in (map view c.args.migration.now.new.now)) c.requires.apart)))
