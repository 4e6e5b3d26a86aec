use Rattle.std.proofs.Common.{rules, codes, Err}
use Rattle.std.proofs.lemmas.Result.{err_from_is_err_and}
use Rattle.mr_text.specs.Canonical.{items_text, line_end}
use Rattle.mr_text.specs.Gathering.{HasGathered, Gathers}
use Rattle.mr_text.proofs.Gathered.{gathers_before_pair, gathers_pair}
use Rattle.mr_text.proofs.writing.put_reply.Goals as goal

pub returns-in_err-put_items-in-Items-clause-text : goal.returns-in_err-put_items-in-Items-clause-text
returns-in_err-put_items-in-Items-clause-text g c =
    let p = err_from_is_err_and c.from_residual.result c.from_residual.ensures.1 in
    let text = items_text c.in-Items.items in
    let stop : Gathers text c.args.buffer.now (g.W.Sink.told c.args.writer.now) (Err p.0) c.put_items.new.buffer (g.W.Sink.told c.put_items.new.writer) = search rules in
    rw (p.1, c.in-Items.is) (gathers_before_pair text (codes "END") line_end _ c.put_items.new.buffer _ _ p.0 stop)

pub returns-in_ok-put_items-in-Items-clause-text : goal.returns-in_ok-put_items-in-Items-clause-text
returns-in_ok-put_items-in-Items-clause-text g c =
    let text = items_text c.in-Items.items in
    let done : HasGathered text c.args.buffer.now (g.W.Sink.told c.args.writer.now) c.put_items.new.buffer (g.W.Sink.told c.put_items.new.writer) = search rules in
    rw c.in-Items.is (gathers_pair text (codes "END") line_end _ _ _ _ _ _ _ done c.put_end.ensures.text)

pub returns-in-ClientError-clause-text : goal.returns-in-ClientError-clause-text
returns-in-ClientError-clause-text g c = rw c.in-ClientError.is c.put_error.ensures.text

pub returns-in-ServerError-clause-text : goal.returns-in-ServerError-clause-text
returns-in-ServerError-clause-text g c = rw c.in-ServerError.is c.put_error-in-ServerError.ensures.text
