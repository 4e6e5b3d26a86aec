use Rattle.std.proofs.Common.{◌≡◌, map, drop}
use Rattle.serde_json.specs.View.{view}
use Rattle.mr_scripts.specs.Requests.{are_keys}
use Rattle.mr_scripts.proofs.requests.are_keys.Given as goal

abbrev pub invariant-loop-value : goal.invariant-loop-value
invariant-loop-value l = are_keys (map view l.values) ≡ are_keys (map view (drop l.value-index l.values))
