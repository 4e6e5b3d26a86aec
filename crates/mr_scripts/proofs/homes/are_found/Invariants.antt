use Rattle.std.proofs.Common.{◌≡◌, map, drop}
use Rattle.serde_json.specs.View.{view}
use Rattle.mr_scripts.specs.Homes.{are_housed}
use Rattle.mr_scripts.proofs.homes.are_found.Given as goal

abbrev pub invariant-loop-item : goal.invariant-loop-item
invariant-loop-item l =
    are_housed (view l.common) (map view l.proxies) (map view l.items) ≡ are_housed (view l.common) (map view l.proxies) (map view (drop l.item-index l.items))
