use Rattle.std.proofs.Common.{rules, get_or, Err}
use Rattle.std.proofs.lemmas.Result.{err_from_is_err_and}
use Rattle.mr_text.specs.Canonical.{spaced}
use Rattle.mr_text.specs.Gathering.{HasGathered, Gathers}
use Rattle.mr_text.proofs.Gathered.{gathered_none}
use Rattle.mr_proxy.specs.NodeRequests.{key_of}
use Rattle.mr_proxy.proofs.DealingLemmas.{key_gathered, key_stopped}
use Rattle.mr_proxy.proofs.asking.put_keys.Goals as goal

pub loop-leg-init : goal.loop-leg-init
loop-leg-init g c = gathered_none _ _

pub returns-in_err-put_key : goal.returns-in_err-put_key
returns-in_err-put_key g c =
    let p = err_from_is_err_and c.from_residual.result c.from_residual.ensures.1 in
    let stop : Gathers (spaced (key_of (get_or c.args.legs.now c.loop-leg.leg-index c.leg-item.result))) c.loop-leg.buffer (g.W.Sink.told c.loop-leg.writer) (Err p.0) c.put_key.new.buffer (g.W.Sink.told c.put_key.new.writer) = search rules in
    rw p.1 (key_stopped c.args.legs.now c.loop-leg.leg-index c.leg-item.result _ _ c.put_key.new.buffer _ _ _ p.0 (search rules) c.loop-leg.invariant stop)

pub loop-leg-preserved : goal.loop-leg-preserved
loop-leg-preserved g c =
    let done : HasGathered (spaced (key_of (get_or c.args.legs.now c.loop-leg.leg-index c.leg-item.result))) c.loop-leg.buffer (g.W.Sink.told c.loop-leg.writer) c.put_key.new.buffer (g.W.Sink.told c.put_key.new.writer) = search rules in
    key_gathered c.args.legs.now c.loop-leg.leg-index c.leg-item.result _ _ _ _ _ _ (search rules) c.loop-leg.invariant done
