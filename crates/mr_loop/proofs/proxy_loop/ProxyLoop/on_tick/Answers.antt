use Rattle.std.proofs.Common.{◌≡◌, length, sym, ◌∙◌}
use Rattle.mr_loop.specs.Ticking.{ticks}
use Rattle.mr_loop.proofs.KeptLemmas.{places, kept_by}
use Rattle.mr_loop.proofs.proxy_loop.ProxyLoop.on_tick.Goals as goal

pub invariant_of-self : goal.invariant_of-self
invariant_of-self c =
    let kept : places c.tick.new.front ≡ places c.self.inside.front =
    kept_by (ticks c.self.inside.limits.leg_timeout c.args.now c.deref_mut.result.now) c.self.inside.front c.tick.new.front c.tick.ensures.front in
    let same : length c.self.inside.inboxes.items ≡ length c.self.inside.front.clients = c.self.invariant in
    let is : length c.self.inside.inboxes.items ≡ length c.tick.new.front.clients = same ∙ sym kept in
    is
