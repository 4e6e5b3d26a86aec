use Rattle.std.proofs.Common.{take, flat_map}
use Rattle.mr_text.specs.Gathering.{HasGathered}
use Rattle.mr_text.proofs.writing.gathering.FixedBuffer.put_all.Given as goal

-- those so far are gathered
abbrev pub invariant-loop-piece : goal.invariant-loop-piece
invariant-loop-piece g l =
    HasGathered (flat_map (λ piece. piece.now) (take l.piece-index l.pieces)) l.initial.self (g.W.Sink.told l.initial.writer) l.self (g.W.Sink.told l.writer)
