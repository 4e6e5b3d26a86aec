use Rattle.std.proofs.Common.{rules, codes, ◌++◌, flat_map, Err}
use Rattle.std.proofs.lemmas.Result.{err_from_is_err_and}
use Rattle.mr_text.specs.Canonical.{spaced, line_end}
use Rattle.mr_text.specs.Gathering.{HasGathered, Gathers}
use Rattle.mr_text.proofs.Gathered.{gathers_before, gathers_behind, gathers_before_pair, gathered_then}
use Rattle.mr_text.proofs.writing.put_request.Goals as goal

pub returns-in_err-put_line-in-Get-clause-text : goal.returns-in_err-put_line-in-Get-clause-text
returns-in_err-put_line-in-Get-clause-text g c =
    let p = err_from_is_err_and c.from_residual.result c.from_residual.ensures.1 in
    let stop : Gathers (codes "get") c.args.buffer.now (g.W.Sink.told c.args.writer.now) (Err p.0) c.put_line.new.self (g.W.Sink.told c.put_line.new.writer) = search rules in
    rw (p.1, c.in-Get.is) (gathers_before_pair (codes "get") (flat_map spaced c.in-Get.keys) line_end _ c.put_line.new.self _ _ p.0 stop)

pub returns-in_err-put_keys-in-Get-clause-text : goal.returns-in_err-put_keys-in-Get-clause-text
returns-in_err-put_keys-in-Get-clause-text g c =
    let p = err_from_is_err_and c.from_residual-in_err-put_keys-in-Get.result c.from_residual-in_err-put_keys-in-Get.ensures.1 in
    let keys = flat_map spaced c.in-Get.keys in
    let word : HasGathered (codes "get") c.args.buffer.now (g.W.Sink.told c.args.writer.now) c.put_line.new.self (g.W.Sink.told c.put_line.new.writer) = search rules in
    let stop : Gathers keys c.put_line.new.self (g.W.Sink.told c.put_line.new.writer) (Err p.0) c.put_keys.new.buffer (g.W.Sink.told c.put_keys.new.writer) = search rules in
    let behind : Gathers (codes "get" ++ keys) c.args.buffer.now (g.W.Sink.told c.args.writer.now) (Err p.0) c.put_keys.new.buffer (g.W.Sink.told c.put_keys.new.writer) =
    gathers_behind (codes "get") keys _ _ c.put_keys.new.buffer _ _ _ (Err p.0) word stop in
    rw (p.1, c.in-Get.is) (gathers_before (codes "get" ++ keys) line_end _ c.put_keys.new.buffer _ _ p.0 behind)

pub returns-in_ok-put_keys-in-Get-clause-text : goal.returns-in_ok-put_keys-in-Get-clause-text
returns-in_ok-put_keys-in-Get-clause-text g c =
    let keys = flat_map spaced c.in-Get.keys in
    let word : HasGathered (codes "get") c.args.buffer.now (g.W.Sink.told c.args.writer.now) c.put_line.new.self (g.W.Sink.told c.put_line.new.writer) = search rules in
    let done : HasGathered keys c.put_line.new.self (g.W.Sink.told c.put_line.new.writer) c.put_keys.new.buffer (g.W.Sink.told c.put_keys.new.writer) = search rules in
    let last : Gathers line_end c.put_keys.new.buffer (g.W.Sink.told c.put_keys.new.writer) c.put_line-in-Get.result c.put_line-in-Get.new.self (g.W.Sink.told c.put_line-in-Get.new.writer) = search rules in
    rw c.in-Get.is (gathers_behind (codes "get" ++ keys) line_end _ _ _ _ _ _ _ (gathered_then (codes "get") keys _ _ _ _ _ _ word done) last)
