use Rattle.std.proofs.Common.{◌≡◌, ◌≤◌, ◌+◌, map, drop, length}
use Rattle.std.specs.Prelude.{sum_by}
use Rattle.serde_json.specs.View.{view}
use Rattle.mr_text.specs.Limits.{MAX_LINE}
use Rattle.mr_text.specs.Key.{get_line_length}
use Rattle.mr_scripts.specs.Requests.{keys_in}
use Rattle.mr_scripts.proofs.requests.fit_line.Given as goal

abbrev pub invariant-loop-value : goal.invariant-loop-value
invariant-loop-value l =
    (l.room ≤ MAX_LINE)
    × (get_line_length (keys_in (map view l.values)) + l.room ≡ MAX_LINE + sum_by (λ key. length key + 1) (keys_in (map view (drop l.value-index l.values))))
