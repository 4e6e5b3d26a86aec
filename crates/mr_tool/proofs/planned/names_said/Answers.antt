use Rattle.mr_tool.proofs.PlannedLemmas.{name_made, name_refused, names_refused}
use Rattle.mr_tool.proofs.planned.names_said.Goals as goal

pub returns-in_err-new : goal.returns-in_err-new
returns-in_err-new c =
    names_refused c.args.word.now c.as_bytes.result.now c.from_residual-in_err-new.result c.in_err-new.field-0.0 c.from_residual-in_err-new.ensures.1
    c.in_err-new.ensures
    (name_refused c.in_ok-pieces.pieces.items c.deref-piece-items.result.now _ _ _ c.as_bytes.result.now c.in_ok-pieces.ensures
    c.deref-piece-items.ensures.value c.loop-piece-test.true c.as_bytes.ensures.value)

pub loop-piece-preserved : goal.loop-piece-preserved
loop-piece-preserved c =
    name_made c.in_ok-pieces.pieces.items c.deref-piece-items.result.now _ _ _ c.as_bytes.result.now c.in_ok-new.field-0 _ _ c.in_ok-pieces.ensures
    c.deref-piece-items.ensures.value c.loop-piece-test.true c.as_bytes.ensures.value c.in_ok-new.ensures c.in_ok-push.ensures.items
    c.loop-piece.invariant
