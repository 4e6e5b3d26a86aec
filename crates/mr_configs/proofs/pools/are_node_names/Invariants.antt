use Rattle.std.proofs.Common.{◌≡◌, map, drop}
use Rattle.serde_json.specs.View.{view}
use Rattle.mr_configs.specs.Pools.{names_in, are_node_names}
use Rattle.mr_configs.proofs.pools.are_node_names.Given as goal

abbrev pub invariant-loop-value : goal.invariant-loop-value
invariant-loop-value l = are_node_names (names_in (map view l.values)) ≡ are_node_names (names_in (map view (drop l.value-index l.values)))
