use Rattle.std.proofs.Common.{◌+◌, ◌*◌, ◌≤◌, map, take, length}
use Rattle.mr_text.specs.Canonical.{items_text}
use Rattle.mr_text.specs.Gathering.{HasGathered, owes}
use Rattle.mr_join.specs.Join.{hits_of}
use Rattle.mr_proxy.specs.Slots.{reply_of_slot}
use Rattle.mr_proxy.proofs.writing.put_hits.Given as goal

-- what the legs of the keys so far found is gathered, and costs at most two calls for each item
abbrev pub invariant-loop-place : goal.invariant-loop-place
invariant-loop-place g l =
    HasGathered (items_text (hits_of (take l.place l.keys) (map reply_of_slot (take l.place l.slots)))) l.initial.buffer (g.W.Sink.told l.initial.writer)
    l.buffer (g.W.Sink.told l.writer)
    × ((g.W.Sink.told l.writer).calls + owes l.buffer
    ≤ (g.W.Sink.told l.initial.writer).calls + owes l.initial.buffer + 2 * length (hits_of (take l.place l.keys) (map reply_of_slot (take l.place l.slots))))
