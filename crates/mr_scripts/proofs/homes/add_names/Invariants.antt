use Rattle.std.proofs.Common.{◌≡◌, ◌||◌, map, drop}
use Rattle.serde_json.specs.View.{view}
use Rattle.mr_configs.specs.Fields.{Text, is_one_of}
use Rattle.mr_configs.specs.Pools.{names_in}
use Rattle.mr_scripts.specs.steps.HomeIndex.{has_name}
use Rattle.mr_scripts.proofs.homes.add_names.Given as goal

abbrev pub invariant-loop-value : goal.invariant-loop-value
invariant-loop-value l =
    (name : Text) →
    (is_one_of (names_in (map view l.values)) name || has_name l.initial.index name)
    ≡ (is_one_of (names_in (map view (drop l.value-index l.values))) name || has_name l.index name)
