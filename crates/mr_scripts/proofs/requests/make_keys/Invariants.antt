use Rattle.std.proofs.Common.{◌≡◌, true, map, take, drop}
use Rattle.serde_json.specs.View.{view}
use Rattle.mr_scripts.specs.Requests.{are_keys, keys_in}
use Rattle.mr_scripts.proofs.requests.make_keys.Given as goal

abbrev pub invariant-loop-value : goal.invariant-loop-value
invariant-loop-value l =
    (l.keys.items ≡ keys_in (map view (take l.value-index l.values)))
    × (are_keys (map view (drop l.value-index l.values)) ≡ true)
