use Rattle.std.proofs.Common.{rules, ◌++◌, length, Err}
use Rattle.std.proofs.lemmas.Result.{err_from_is_err_and}
use Rattle.mr_text.specs.Canonical.{value_line_text, line_end}
use Rattle.mr_text.specs.Gathering.{HasGathered, Gathers}
use Rattle.mr_text.proofs.Gathered.{gathers_before_pair, gathers_pair}
use Rattle.mr_text.proofs.writing.put_item.Goals as goal

pub returns-in_err-put_value_line-clause-text : goal.returns-in_err-put_value_line-clause-text
returns-in_err-put_value_line-clause-text g c =
    let p = err_from_is_err_and c.from_residual.result c.from_residual.ensures.1 in
    let line = value_line_text c.args.key.now c.args.flags (length c.args.block.now) in
    let stop : Gathers line c.args.buffer.now (g.W.Sink.told c.args.writer.now) (Err p.0) c.put_value_line.new.buffer (g.W.Sink.told c.put_value_line.new.writer) = search rules in
    rw p.1 (gathers_before_pair line c.args.block.now line_end _ c.put_value_line.new.buffer _ _ p.0 stop)

pub returns-clause-text : goal.returns-clause-text
returns-clause-text g c =
    let line = value_line_text c.args.key.now c.args.flags (length c.args.block.now) in
    let done : HasGathered line c.args.buffer.now (g.W.Sink.told c.args.writer.now) c.put_value_line.new.buffer (g.W.Sink.told c.put_value_line.new.writer) = search rules in
    let then : Gathers (c.args.block.now ++ line_end) c.put_value_line.new.buffer (g.W.Sink.told c.put_value_line.new.writer) c.put_block.result c.put_block.new.self (g.W.Sink.told c.put_block.new.writer) = search rules in
    gathers_pair line c.args.block.now line_end _ _ _ _ _ _ _ done then
