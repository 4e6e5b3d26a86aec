use Rattle.std.proofs.Common.{rules}
use Rattle.std.proofs.lemmas.Result.{err_from_is_err_and}
use Rattle.mr_text.proofs.Writes.{stopped_at_once}
use Rattle.mr_text.proofs.writing.gathering.FixedBuffer.send.Goals as goal

pub returns-in_err-write_all-clause-text : goal.returns-in_err-write_all-clause-text
returns-in_err-write_all-clause-text g c =
    let p = err_from_is_err_and c.from_residual.result c.from_residual.ensures.1 in
    rw p.1 (stopped_at_once c.args.self.now _ _ c.in_err-write_all.field-0.0 (search rules))
