use Rattle.std.proofs.Common.{inr, true, false, refl, sym, ap, subst, ◌∙◌}
use Rattle.mr_text.specs.declared.cause.Cause.TheVariants as cause
use Rattle.mr_proxy.specs.ProxyView.{ProxyView}
use Rattle.mr_loop.specs.Asking.{denial_of}
use Rattle.mr_loop.specs.steps.Asking.{IsWithdrawn}
use Rattle.mr_loop.proofs.DoneLemmas.{off_all}
use Rattle.mr_loop.proofs.asking.send_off.Goals as goal

pub returns-in-Ok-true : goal.returns-in-Ok-true
returns-in-Ok-true c =
    off_all c.args.asker c.args.front.now.core.routing c.routing.result.now c.args.op c.args.legs.now.items (denial_of c.args.is_silent cause.OutOfMemory) c.args.front.now c.args.front.now
    c.args.links.now c.send_all.new.links true (c.routing.ensures ∙ ap (λ (p : ProxyView). p.routing) c.core.ensures)
    (sym c.in-Ok-true.field-0-test ∙ c.in-Ok-true.ensures.up) c.in-Ok-true.ensures.sent refl

pub returns-in-Ok-false : goal.returns-in-Ok-false
returns-in-Ok-false c =
    off_all c.args.asker c.args.front.now.core.routing c.routing.result.now c.args.op c.args.legs.now.items (denial_of c.args.is_silent cause.OutOfMemory) c.args.front.now c.give_up.new.self
    c.args.links.now c.send_all.new.links false (c.routing.ensures ∙ ap (λ (p : ProxyView). p.routing) c.core.ensures)
    (sym c.in-Ok-false.field-0-test ∙ c.in-Ok-false.ensures.up) c.in-Ok-false.ensures.sent c.give_up.ensures

pub returns-in-Err : goal.returns-in-Err
returns-in-Err c =
    inr (c.in-Err.ensures.unchanged, subst (λ d. IsWithdrawn c.args.asker.client c.args.op d c.args.front.now c.withdraw.new.self) c.denial_of.ensures c.withdraw.ensures)
