use Rattle.std.proofs.Common.{rules, arith, get_or, Err}
use Rattle.std.proofs.lemmas.Result.{err_from_is_err_and}
use Rattle.mr_text.specs.Canonical.{item_text}
use Rattle.mr_text.specs.Gathering.{HasGathered, Gathers}
use Rattle.mr_text.proofs.Gathered.{gathered_none, gathers_piece, gathered_piece}
use Rattle.mr_text.proofs.writing.put_items.Goals as goal

pub loop-item-init : goal.loop-item-init
loop-item-init g c = (gathered_none _ _, omega arith)

pub returns-in_err-put_item-clause-text : goal.returns-in_err-put_item-clause-text
returns-in_err-put_item-clause-text g c =
    let p = err_from_is_err_and c.from_residual.result c.from_residual.ensures.1 in
    let stop : Gathers (item_text (get_or c.args.items.now c.loop-item.item-index c.item-item.result)) c.loop-item.buffer (g.W.Sink.told c.loop-item.writer) (Err p.0) c.put_item.new.buffer (g.W.Sink.told c.put_item.new.writer) = search rules in
    rw p.1 (gathers_piece item_text c.args.items.now c.loop-item.item-index c.item-item.result _ _ c.put_item.new.buffer _ _ _ p.0 (search rules) c.loop-item.invariant.0 stop)

pub returns-in_err-put_item-clause-calls : goal.returns-in_err-put_item-clause-calls
returns-in_err-put_item-clause-calls g c =
    let p = err_from_is_err_and c.from_residual.result c.from_residual.ensures.1 in
    let so = c.loop-item.invariant.1 in
    let more = c.in_err-put_item.ensures.calls in
    let low = c.loop-item-test.true in
    rw p.1 (omega arith)

pub loop-item-preserved : goal.loop-item-preserved
loop-item-preserved g c =
    let so = c.loop-item.invariant.1 in
    let more = c.in_ok-put_item.ensures.calls in
    let done : HasGathered (item_text (get_or c.args.items.now c.loop-item.item-index c.item-item.result)) c.loop-item.buffer (g.W.Sink.told c.loop-item.writer) c.put_item.new.buffer (g.W.Sink.told c.put_item.new.writer) = search rules in
    (gathered_piece item_text c.args.items.now c.loop-item.item-index c.item-item.result _ _ _ _ _ _ (search rules) c.loop-item.invariant.0 done, omega arith)
