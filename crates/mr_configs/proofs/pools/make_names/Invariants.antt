use Rattle.std.proofs.Common.{◌≡◌, true, map, take, drop}
use Rattle.serde_json.specs.View.{view}
use Rattle.mr_configs.specs.Pools.{names_in, are_node_names}
use Rattle.mr_configs.proofs.pools.make_names.Given as goal

abbrev pub invariant-loop-value : goal.invariant-loop-value
invariant-loop-value l =
    (l.names.items ≡ names_in (map view (take l.value-index l.values)))
    × (are_node_names (names_in (map view (drop l.value-index l.values))) ≡ true)
