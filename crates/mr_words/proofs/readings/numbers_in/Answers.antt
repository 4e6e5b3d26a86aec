use Rattle.mr_words.proofs.ListLemmas.{piece_parsed, piece_refused}
use Rattle.mr_words.proofs.readings.numbers_in.Goals as goal

pub returns-in_default : goal.returns-in_default
returns-in_default c =
    piece_refused c.in_ok-pieces.pieces.items c.deref-piece-items.result.now _ _ _ c.in_ok-pieces.ensures c.deref-piece-items.ensures.value
    c.loop-piece-test.true c.in_default.ensures.value.0

pub loop-piece-preserved : goal.loop-piece-preserved
loop-piece-preserved c =
    piece_parsed c.in_ok-pieces.pieces.items c.deref-piece-items.result.now _ _ _ _ _ _ c.in_ok-pieces.ensures c.deref-piece-items.ensures.value
    c.loop-piece-test.true c.in-Ok.ensures.value.0 c.in_ok-push.ensures.items c.loop-piece.invariant
