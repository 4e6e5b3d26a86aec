use Rattle.std.proofs.Common.{◌+◌, ◌*◌, ◌≤◌, take, flat_map}
use Rattle.mr_text.specs.Canonical.{item_text}
use Rattle.mr_text.specs.Gathering.{HasGathered, owes}
use Rattle.mr_text.proofs.writing.put_items.Given as goal

-- those so far are gathered, and cost at most two calls each
abbrev pub invariant-loop-item : goal.invariant-loop-item
invariant-loop-item g l =
    HasGathered (flat_map item_text (take l.item-index l.items)) l.initial.buffer (g.W.Sink.told l.initial.writer) l.buffer (g.W.Sink.told l.writer)
    × ((g.W.Sink.told l.writer).calls + owes l.buffer ≤ (g.W.Sink.told l.initial.writer).calls + owes l.initial.buffer + 2 * l.item-index)
