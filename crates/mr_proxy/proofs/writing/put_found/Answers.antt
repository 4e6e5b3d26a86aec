use Rattle.std.proofs.Common.{rules, codes, map, Err}
use Rattle.std.proofs.lemmas.Result.{err_from_is_err_and}
use Rattle.mr_text.specs.Canonical.{items_text, line_end}
use Rattle.mr_text.specs.Gathering.{HasGathered, Gathers}
use Rattle.mr_text.proofs.Gathered.{gathers_before_pair, gathers_pair}
use Rattle.mr_join.specs.Join.{hits_of}
use Rattle.mr_proxy.specs.Slots.{reply_of_slot}
use Rattle.mr_proxy.proofs.writing.put_found.Goals as goal

pub returns-in_err-put_hits-clause-text : goal.returns-in_err-put_hits-clause-text
returns-in_err-put_hits-clause-text g c =
    let p = err_from_is_err_and c.from_residual.result c.from_residual.ensures.1 in
    let text = items_text (hits_of c.args.keys.now (map reply_of_slot c.args.slots.now)) in
    let stop : Gathers text c.args.buffer.now (g.W.Sink.told c.args.writer.now) (Err p.0) c.put_hits.new.buffer (g.W.Sink.told c.put_hits.new.writer) =
    search rules in
    rw p.1 (gathers_before_pair text (codes "END") line_end _ c.put_hits.new.buffer _ _ p.0 stop)

pub returns-clause-text : goal.returns-clause-text
returns-clause-text g c =
    let text = items_text (hits_of c.args.keys.now (map reply_of_slot c.args.slots.now)) in
    let done : HasGathered text c.args.buffer.now (g.W.Sink.told c.args.writer.now) c.put_hits.new.buffer (g.W.Sink.told c.put_hits.new.writer) =
    search rules in
    gathers_pair text (codes "END") line_end _ _ _ _ _ _ _ done c.put_end.ensures.text
