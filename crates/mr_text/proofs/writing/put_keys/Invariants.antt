use Rattle.std.proofs.Common.{◌+◌, ◌≤◌, take, flat_map}
use Rattle.mr_text.specs.Canonical.{spaced}
use Rattle.mr_text.specs.Gathering.{HasGathered}
use Rattle.mr_text.proofs.writing.put_keys.Given as goal

-- those so far are gathered, and cost at most one call each
abbrev pub invariant-loop-key : goal.invariant-loop-key
invariant-loop-key g l =
    HasGathered (flat_map spaced (take l.key-index l.keys)) l.initial.buffer (g.W.Sink.told l.initial.writer) l.buffer (g.W.Sink.told l.writer)
    × ((g.W.Sink.told l.writer).calls ≤ (g.W.Sink.told l.initial.writer).calls + l.key-index)
