use Rattle.std.proofs.Common.{◌+◌, ◌*◌, length}
use Rattle.mr_node.specs.Outcome.{Outcome}
use Rattle.mr_node.specs.Session.{station}
use Rattle.mr_node.proofs.CountLemmas.{ReadSoFar}
use Rattle.mr_node.proofs.SessionLemmas.{UnderWay}
use Rattle.mr_node.proofs.service.serve_all.Given as goal

-- what was read so far was served, and the reader didn't fail
abbrev pub invariant-session : goal.invariant-session
invariant-session g l = record {
  so : UnderWay (Outcome g.C.Clock.reads g.C.Clock.failures g.P.Perform.did g.P.Perform.refused)
      (g.S.Source.told l.initial.reader) (station l.initial.clock l.initial.node (g.W.Sink.told l.initial.writer))
      (g.S.Source.told l.reader) (station l.clock l.node (g.W.Sink.told l.writer)) l.requests l.ended;
  read : ReadSoFar l.fn.turns l.turns_left l.ended (g.S.Source.told l.initial.reader) (g.S.Source.told l.reader);
}

-- a read takes a turn and brings less than a turn's weight; a request that is served takes bytes
abbrev pub decreases-session : goal.decreases-session
decreases-session g l = l.turns_left * 4097 + length l.requests.kept
