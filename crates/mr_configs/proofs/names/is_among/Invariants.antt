use Rattle.std.proofs.Common.{◌≡◌, map, drop}
use Rattle.serde_json.specs.View.{view}
use Rattle.mr_configs.specs.Pools.{names_in}
use Rattle.mr_configs.specs.Fields.{is_one_of}
use Rattle.mr_configs.proofs.names.is_among.Given as goal

abbrev pub invariant-loop-value : goal.invariant-loop-value
invariant-loop-value l = is_one_of (names_in (map view l.values)) l.name ≡ is_one_of (names_in (map view (drop l.value-index l.values))) l.name
