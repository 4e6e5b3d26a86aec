use Rattle.std.proofs.Common.{take, map, flat_map}
use Rattle.mr_text.specs.Canonical.{spaced}
use Rattle.mr_text.specs.Gathering.{HasGathered}
use Rattle.mr_proxy.specs.NodeRequests.{key_of}
use Rattle.mr_proxy.proofs.asking.put_keys.Given as goal

-- the keys so far are gathered
abbrev pub invariant-loop-leg : goal.invariant-loop-leg
invariant-loop-leg g l =
    HasGathered (flat_map spaced (map key_of (take l.leg-index l.legs))) l.initial.buffer (g.W.Sink.told l.initial.writer) l.buffer (g.W.Sink.told l.writer)
