use Rattle.std.proofs.lemmas.Result.{err_from_is_err_and}
use Rattle.mr_text.specs.Canonical.{line_end}
use Rattle.mr_text.proofs.Gathered.{gathers_before, gathers_behind, costs_block}
use Rattle.mr_text.proofs.writing.gathering.FixedBuffer.put_block.Goals as goal

pub returns-in_err-put-clause-text : goal.returns-in_err-put-clause-text
returns-in_err-put-clause-text g c =
    let p = err_from_is_err_and c.from_residual.result c.from_residual.ensures.1 in
    rw p.1 (gathers_before _ line_end _ c.put.new.self _ _ _ c.in_err-put.ensures.text)

pub returns-clause-text : goal.returns-clause-text
returns-clause-text g c = gathers_behind c.args.block.now line_end _ _ _ _ _ _ _ c.in_ok-put.ensures.text c.put-2.ensures.text

pub returns-clause-calls : goal.returns-clause-calls
returns-clause-calls g c = costs_block c.args.block.now _ _ _ _ _ _ _ c.in_ok-put.ensures.text c.in_ok-put.ensures.long c.put-2.ensures.text
