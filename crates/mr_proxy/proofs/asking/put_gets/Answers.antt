use Rattle.std.proofs.Common.{rules, codes, ◌++◌, map, flat_map, Err}
use Rattle.std.proofs.lemmas.Result.{err_from_is_err_and}
use Rattle.mr_text.specs.Canonical.{spaced, line_end}
use Rattle.mr_text.specs.Gathering.{HasGathered, Gathers}
use Rattle.mr_text.proofs.Gathered.{gathers_before, gathers_behind, gathers_before_pair, gathered_then}
use Rattle.mr_proxy.specs.NodeRequests.{key_of}
use Rattle.mr_proxy.proofs.asking.put_gets.Goals as goal

pub returns-in_err-put_get : goal.returns-in_err-put_get
returns-in_err-put_get g c =
    let p = err_from_is_err_and c.from_residual.result c.from_residual.ensures.1 in
    let first = codes "get" ++ spaced c.args.key.now in
    let stop : Gathers first c.args.buffer.now (g.W.Sink.told c.args.writer.now) (Err p.0) c.put_get.new.buffer (g.W.Sink.told c.put_get.new.writer) = search rules in
    rw p.1 (gathers_before_pair first (flat_map spaced (map key_of c.args.others.now)) line_end _ c.put_get.new.buffer _ _ p.0 stop)

pub returns-in_err-put_keys : goal.returns-in_err-put_keys
returns-in_err-put_keys g c =
    let p = err_from_is_err_and c.from_residual-in_err-put_keys.result c.from_residual-in_err-put_keys.ensures.1 in
    let first = codes "get" ++ spaced c.args.key.now in
    let keys = flat_map spaced (map key_of c.args.others.now) in
    let word : HasGathered first c.args.buffer.now (g.W.Sink.told c.args.writer.now) c.put_get.new.buffer (g.W.Sink.told c.put_get.new.writer) = search rules in
    let stop : Gathers keys c.put_get.new.buffer (g.W.Sink.told c.put_get.new.writer) (Err p.0) c.put_keys.new.buffer (g.W.Sink.told c.put_keys.new.writer) = search rules in
    let behind : Gathers (first ++ keys) c.args.buffer.now (g.W.Sink.told c.args.writer.now) (Err p.0) c.put_keys.new.buffer (g.W.Sink.told c.put_keys.new.writer) =
    gathers_behind first keys _ _ c.put_keys.new.buffer _ _ _ (Err p.0) word stop in
    rw p.1 (gathers_before (first ++ keys) line_end _ c.put_keys.new.buffer _ _ p.0 behind)

pub returns : goal.returns
returns g c =
    let first = codes "get" ++ spaced c.args.key.now in
    let keys = flat_map spaced (map key_of c.args.others.now) in
    let word : HasGathered first c.args.buffer.now (g.W.Sink.told c.args.writer.now) c.put_get.new.buffer (g.W.Sink.told c.put_get.new.writer) = search rules in
    let done : HasGathered keys c.put_get.new.buffer (g.W.Sink.told c.put_get.new.writer) c.put_keys.new.buffer (g.W.Sink.told c.put_keys.new.writer) = search rules in
    let last : Gathers line_end c.put_keys.new.buffer (g.W.Sink.told c.put_keys.new.writer) c.put_line_end.result c.put_line_end.new.buffer (g.W.Sink.told c.put_line_end.new.writer) = search rules in
    gathers_behind (first ++ keys) line_end _ _ _ _ _ _ _ (gathered_then first keys _ _ _ _ _ _ word done) last
