use Rattle.std.proofs.Common.{rules}
use Rattle.std.proofs.lemmas.Result.{err_from_is_err_and}
use Rattle.mr_text.proofs.Gathered.{gathered_none, gathers_piece, gathered_piece}
use Rattle.mr_text.proofs.writing.gathering.FixedBuffer.put_all.Goals as goal

pub loop-piece-init : goal.loop-piece-init
loop-piece-init g c = gathered_none _ _

pub returns-in_err-put : goal.returns-in_err-put
returns-in_err-put g c =
    let p = err_from_is_err_and c.from_residual.result c.from_residual.ensures.1 in
    rw p.1 (gathers_piece (λ piece. piece.now) c.args.pieces.now c.loop-piece.piece-index _ _ _ c.put.new.self _ _ _ _ (search rules) c.loop-piece.invariant c.in_err-put.ensures.text)

pub loop-piece-preserved : goal.loop-piece-preserved
loop-piece-preserved g c =
    gathered_piece (λ piece. piece.now) c.args.pieces.now c.loop-piece.piece-index _ _ _ _ _ _ _ (search rules) c.loop-piece.invariant c.in_ok-put.ensures.text
