use Rattle.std.proofs.Common.{◌≡◌, map, drop}
use Rattle.serde_json.specs.View.{view}
use Rattle.mr_configs.specs.Pools.{names_in, stand_apart}
use Rattle.mr_configs.proofs.pools.stand_apart.Given as goal

abbrev pub invariant-loop-value : goal.invariant-loop-value
invariant-loop-value l = stand_apart (names_in (map view l.values)) (names_in (map view l.others)) ≡ stand_apart (names_in (map view (drop l.value-index l.values))) (names_in (map view l.others))
