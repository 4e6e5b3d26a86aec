use Rattle.std.proofs.Common.{rules, ◌++◌, Err}
use Rattle.std.proofs.lemmas.Result.{err_from_is_err_and}
use Rattle.mr_text.specs.Canonical.{line_end}
use Rattle.mr_text.specs.CauseText.{text_of_cause}
use Rattle.mr_text.specs.Gathering.{HasGathered, Gathers}
use Rattle.mr_text.proofs.Gathered.{gathers_before_pair, gathers_pair}
use Rattle.mr_text.proofs.writing.put_error.Goals as goal

pub returns-in_err-put_line-clause-text : goal.returns-in_err-put_line-clause-text
returns-in_err-put_line-clause-text g c =
    let p = err_from_is_err_and c.from_residual.result c.from_residual.ensures.1 in
    let stop : Gathers c.args.word.now c.args.buffer.now (g.W.Sink.told c.args.writer.now) (Err p.0) c.put_line.new.self (g.W.Sink.told c.put_line.new.writer) = search rules in
    rw p.1 (gathers_before_pair c.args.word.now (text_of_cause c.args.cause.now) line_end _ c.put_line.new.self _ _ p.0 stop)

pub returns-clause-text : goal.returns-clause-text
returns-clause-text g c =
    let done : HasGathered c.args.word.now c.args.buffer.now (g.W.Sink.told c.args.writer.now) c.put_line.new.self (g.W.Sink.told c.put_line.new.writer) = search rules in
    let then : Gathers (text_of_cause c.args.cause.now ++ line_end) c.put_line.new.self (g.W.Sink.told c.put_line.new.writer) c.put_block.result c.put_block.new.self (g.W.Sink.told c.put_block.new.writer) = search rules in
    gathers_pair c.args.word.now (text_of_cause c.args.cause.now) line_end _ _ _ _ _ _ _ done then
