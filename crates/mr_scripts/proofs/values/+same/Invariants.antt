use Rattle.std.proofs.Common.{◌≡◌, drop}
use Rattle.serde_json.specs.View.{view, items_view, members_view}
use Rattle.mr_scripts.specs.Values.{are_same, stand_in}
use Rattle.mr_scripts.proofs.values.+same.Given as goal

abbrev pub invariant-are_same-loop-index : goal.invariant-are_same-loop-index
invariant-are_same-loop-index l =
    are_same (items_view l.items.items) (items_view l.others.items)
    ≡ are_same (items_view (drop l.index l.items.items)) (items_view (drop l.index l.others.items))

abbrev pub invariant-stand_in-loop-key : goal.invariant-stand_in-loop-key
invariant-stand_in-loop-key l =
    (goal.iterator-stand_in-loop-key).can_next l.key-iterator ×
    (goal.iterator-stand_in-loop-key).is_finite l.key-iterator ×
    (stand_in (members_view l.members.entries) (view l.other) ≡ stand_in (members_view l.key-iterator) (view l.other))
