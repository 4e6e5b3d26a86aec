use Rattle.std.proofs.Common.{◌+◌, ◌*◌, length}
use Rattle.mr_node.proofs.CountLemmas.{ReadSoFar}
use Rattle.mr_node.proofs.SessionLemmas.{UnderWay}
use Rattle.mr_sessions.specs.Asking.{AsksDesk}
use Rattle.mr_sessions.specs.steps.Standing.{standing}
use Rattle.mr_sessions.proofs.serving.serve_until_end.Given as goal

-- what was read so far was served, and the reader didn't fail
abbrev pub invariant-session : goal.invariant-session
invariant-session g l = record {
  so : UnderWay (AsksDesk g.K.Clock.reads g.K.Clock.failures g.C.Carrier.gave g.D.Desk.recorded)
      (g.S.Source.told l.initial.reader)
      (standing l.initial.clock l.initial.log (g.L.Carriers.told l.initial.carriers) (g.W.Sink.told l.initial.writer))
      (g.S.Source.told l.reader)
      (standing l.clock l.log (g.L.Carriers.told l.carriers) (g.W.Sink.told l.writer))
      l.requests l.ended;
  read : ReadSoFar l.fn.turns l.turns_left l.ended (g.S.Source.told l.initial.reader) (g.S.Source.told l.reader);
}

-- a read takes a turn and brings less than a turn's weight; a request that is served takes bytes
abbrev pub decreases-session : goal.decreases-session
decreases-session g l = l.turns_left * 4097 + length l.requests.kept
