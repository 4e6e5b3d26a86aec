use Rattle.std.proofs.Common.{rules}
use Rattle.std.proofs.lemmas.Result.{err_from_is_err_and}
use Rattle.mr_text.proofs.Writes.{stopped_before}
use Rattle.mr_text.proofs.writing.gathering.FixedBuffer.make_way.Goals as goal

pub returns-in_err-send-clause-text : goal.returns-in_err-send-clause-text
returns-in_err-send-clause-text g c =
    let p = err_from_is_err_and c.from_residual.result c.from_residual.ensures.1 in
    rw p.1 (stopped_before _ c.args.bytes.now _ _ (search rules), search rules)
