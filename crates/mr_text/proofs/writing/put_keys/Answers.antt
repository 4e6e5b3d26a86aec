use Rattle.std.proofs.Common.{rules, arith, get_or, Err}
use Rattle.std.proofs.lemmas.Result.{err_from_is_err_and}
use Rattle.mr_text.specs.Canonical.{spaced}
use Rattle.mr_text.specs.Gathering.{HasGathered, Gathers}
use Rattle.mr_text.proofs.Gathered.{gathered_none, gathers_piece, gathered_piece}
use Rattle.mr_text.proofs.writing.put_keys.Goals as goal

pub loop-key-init : goal.loop-key-init
loop-key-init g c = (gathered_none _ _, omega arith)

pub returns-in_err-put_key-clause-text : goal.returns-in_err-put_key-clause-text
returns-in_err-put_key-clause-text g c =
    let p = err_from_is_err_and c.from_residual.result c.from_residual.ensures.1 in
    let stop : Gathers (spaced (get_or c.args.keys.now c.loop-key.key-index c.key-item.result)) c.loop-key.buffer (g.W.Sink.told c.loop-key.writer) (Err p.0) c.put_key.new.buffer (g.W.Sink.told c.put_key.new.writer) = search rules in
    rw p.1 (gathers_piece spaced c.args.keys.now c.loop-key.key-index c.key-item.result _ _ c.put_key.new.buffer _ _ _ p.0 (search rules) c.loop-key.invariant.0 stop)

pub returns-in_err-put_key-clause-calls : goal.returns-in_err-put_key-clause-calls
returns-in_err-put_key-clause-calls g c =
    let so = c.loop-key.invariant.1 in
    let more = c.in_err-put_key.ensures.calls in
    let low = c.loop-key-test.true in
    omega arith

pub loop-key-preserved : goal.loop-key-preserved
loop-key-preserved g c =
    let so = c.loop-key.invariant.1 in
    let more = c.in_ok-put_key.ensures.calls in
    let done : HasGathered (spaced (get_or c.args.keys.now c.loop-key.key-index c.key-item.result)) c.loop-key.buffer (g.W.Sink.told c.loop-key.writer) c.put_key.new.buffer (g.W.Sink.told c.put_key.new.writer) = search rules in
    (gathered_piece spaced c.args.keys.now c.loop-key.key-index c.key-item.result _ _ _ _ _ _ (search rules) c.loop-key.invariant.0 done, omega arith)
