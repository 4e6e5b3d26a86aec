use Rattle.std.proofs.Common.{◌≡◌, ◌++◌, map}
use Rattle.std.specs.Vec.Iter.{into_iter_items}
use Rattle.serde_json.specs.View.{view}
use Rattle.mr_scripts.specs.Upgrade.{upgraded_event}
use Rattle.mr_scripts.proofs.upgrade.each_upgraded_event.Given as goal

-- what was changed so far and what is left are all
abbrev pub invariant-loop-value : goal.invariant-loop-value
invariant-loop-value l =
    (goal.iterator-loop-value).can_next l.value-iterator ×
    (goal.iterator-loop-value).is_finite l.value-iterator ×
    (map view l.made.items ++ map upgraded_event (map view (into_iter_items l.value-iterator)) ≡ map upgraded_event (map view l.fn.values.items))
