use Rattle.std.proofs.Common.{◌≡◌, map, drop}
use Rattle.serde_json.specs.View.{view}
use Rattle.mr_configs.specs.Pools.{are_texts}
use Rattle.mr_configs.proofs.pools.are_texts.Given as goal

abbrev pub invariant-loop-value : goal.invariant-loop-value
invariant-loop-value l = are_texts (map view l.values) ≡ are_texts (map view (drop l.value-index l.values))
