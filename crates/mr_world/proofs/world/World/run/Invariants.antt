use Rattle.std.proofs.Common.{◌≡◌, ◌+◌, length, vec_len}
use Rattle.std.specs.Vec.Iter.{into_iter_items}
use Rattle.mr_world.proofs.ReadyLemmas.{HasRun}
use Rattle.mr_world.proofs.world.World.run.Given as goal

-- the events so far were played
abbrev pub invariant-loop-event : goal.invariant-loop-event
invariant-loop-event l =
    (goal.iterator-loop-event).can_next l.event-iterator ×
    (goal.iterator-loop-event).is_finite l.event-iterator ×
    HasRun l.initial.self l.fn.events.items l.index (into_iter_items l.event-iterator) l.self ×
    (l.index + length (into_iter_items l.event-iterator) ≡ vec_len l.fn.events)
