use Rattle.std.proofs.Common.{◌≡◌, ◌++◌, map, fold}
use Rattle.std.specs.Vec.Iter.{into_iter_items}
use Rattle.mr_world.specs.Setup.{hold, held_entry}
use Rattle.mr_world.proofs.network.making.hold_items.Given as goal

-- what is held so far and what is left are all
abbrev pub invariant-loop-item : goal.invariant-loop-item
invariant-loop-item l =
    (goal.iterator-loop-item).can_next l.item-iterator ×
    (goal.iterator-loop-item).is_finite l.item-iterator ×
    (fold hold l.nodes (into_iter_items l.item-iterator) ≡ fold hold l.fn.nodes l.fn.items.items) ×
    (l.history.entries ++ map held_entry (into_iter_items l.item-iterator) ≡ map held_entry l.fn.items.items)
