use Rattle.std.proofs.Common.{arith, ◌∷◌, []}
use Rattle.std.proofs.lemmas.Result.{err_from_is_err_and}
use Rattle.mr_text.specs.Canonical.{canonical_request}
use Rattle.mr_text.specs.Gathering.{HasGathered}
use Rattle.mr_text.specs.declared.request.Request.TheVariants.{Get}
use Rattle.mr_text.proofs.Gathered.{get_pieces, get_fits, stopped_first, few_at_fault, few_when_sent, sent_at_last}
use Rattle.mr_text.proofs.writing.send_get.Goals as goal

pub returns-in_err-put_line-clause-text : goal.returns-in_err-put_line-clause-text
returns-in_err-put_line-clause-text g c =
    let p = err_from_is_err_and c.from_residual.result c.from_residual.ensures.1 in
    rw p.1 (stopped_first _ _ _ _ c.clear.ensures (get_pieces c.args.key.now c.as_bytes.result.now c.as_bytes.ensures.bytes) _ c.in_err-put_line.ensures.text.0)

pub returns-in_err-put_line-clause-calls : goal.returns-in_err-put_line-clause-calls
returns-in_err-put_line-clause-calls g c =
    few_at_fault _ _ _ _ c.clear.ensures (get_pieces c.args.key.now c.as_bytes.result.now c.as_bytes.ensures.bytes) _
    (get_fits c.as_bytes.result.now c.as_bytes.ensures.key.not_long) c.in_err-put_line.ensures.text.1

pub returns-clause-calls : goal.returns-clause-calls
returns-clause-calls g c =
    few_when_sent _ _ _ _ c.clear.ensures (get_pieces c.args.key.now c.as_bytes.result.now c.as_bytes.ensures.bytes) _ _ _
    (get_fits c.as_bytes.result.now c.as_bytes.ensures.key.not_long) (omega arith) c.in_ok-put_line.ensures.text c.send.ensures.calls

pub returns-clause-text : goal.returns-clause-text
returns-clause-text g c =
    let text = canonical_request (Get (c.args.key.now ∷ [])) in
    let done : HasGathered text c.clear.new.self (g.W.Sink.told c.args.writer.now) c.put_line.new.self (g.W.Sink.told c.put_line.new.writer) =
    rw (get_pieces c.args.key.now c.as_bytes.result.now c.as_bytes.ensures.bytes) at c.in_ok-put_line.ensures.text in
    sent_at_last text _ _ _ _ _ _ c.clear.ensures done c.send.ensures.text
