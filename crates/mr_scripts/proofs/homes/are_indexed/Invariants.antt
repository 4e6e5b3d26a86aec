use Rattle.std.proofs.Common.{◌≡◌, map, drop}
use Rattle.std.specs.List.{list_all}
use Rattle.serde_json.specs.View.{view}
use Rattle.mr_scripts.specs.Homes.{node_at}
use Rattle.mr_scripts.specs.steps.HomeIndex.{has_name}
use Rattle.mr_scripts.proofs.homes.are_indexed.Given as goal

abbrev pub invariant-loop-item : goal.invariant-loop-item
invariant-loop-item l =
    list_all (λ item. has_name l.index (node_at item)) (map view l.items)
    ≡ list_all (λ item. has_name l.index (node_at item)) (map view (drop l.item-index l.items))
