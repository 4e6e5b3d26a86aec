use Rattle.std.proofs.Common.{◌≡◌, ◌∙◌, ◌<◌, ℕ, sym, subst}
use Rattle.mr_probes.specs.Choosing.{chosen_below, looked_at}
use Rattle.mr_probes.proofs.ChoosingLemmas.{chosen_early, chosen_none, chosen_step}
use Rattle.mr_probes.proofs.choosing.keys_of.Goals as goal

pub loop-number-init : goal.loop-number-init
loop-number-init c = c.new-keys.ensures.items ∙ sym (chosen_none c.args.routing.now c.args.prefix.now c.args.run c.args.count)

pub loop-number-preserved : goal.loop-number-preserved
loop-number-preserved c =
    chosen_step c.args.routing.now c.args.prefix.now c.args.run c.args.count c.loop-number.number c.loop-number.keys.items c.deref.result.now c.add_if.new.keys.items c.in_ok-key.key
    c.is_taken-taken.result c.in_ok-add_if.ensures c.is_taken-taken.ensures c.deref.ensures.value c.in_ok-key.ensures.1 c.loop-number.invariant

pub returns-then-are_enough : goal.returns-then-are_enough
returns-then-are_enough c =
    let step = chosen_step c.args.routing.now c.args.prefix.now c.args.run c.args.count c.loop-number.number c.loop-number.keys.items c.deref.result.now c.add_if.new.keys.items c.in_ok-key.key
    c.is_taken-taken.result c.in_ok-add_if.ensures c.is_taken-taken.ensures c.deref.ensures.value c.in_ok-key.ensures.1 c.loop-number.invariant in
    chosen_early c.args.routing.now c.args.prefix.now c.args.run c.args.count c.loop-number.number (looked_at c.args.count) c.add_if.new.keys.items
    c.deref-then-taken.result.now c.are_enough.result (c.are_enough.ensures.routing c.if-are_enough.true) step c.deref-then-taken.ensures.value c.are_enough.ensures.enough
    c.if-are_enough.true
    (subst (λ (n : ℕ). c.loop-number.number < n) c.max-number-end.ensures c.loop-number-test.true)
