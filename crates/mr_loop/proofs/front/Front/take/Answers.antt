use Rattle.std.proofs.Common.{◌≡◌, ℕ, ◌+◌, ◌≤◌, length, vec_capacity, sym, ap, ◌∙◌, arith}
use Rattle.std.proofs.lemmas.List.{length_push}
use Rattle.mr_join.specs.declared.leg_reply.LegReply.{LegReply}
use Rattle.mr_proxy.specs.ProxyView.{ProxyView}
use Rattle.mr_proxy.specs.Transitions.{after_take}
use Rattle.mr_proxy.specs.declared.sheet.LegId.{LegId}
use Rattle.mr_loop.proofs.CoreLemmas.{fewer_taken, kept_taken}
use Rattle.mr_loop.proofs.front.Front.take.Goals as goal

-- as many requests are under way as before, or one less
still_fits : (touched capacity : ℕ) (core new : ProxyView) (id : LegId) (said : LegReply) → touched + length core.outstanding ≤ capacity
    → new ≡ after_take core id said → touched + length new.outstanding ≤ capacity
still_fits touched capacity core new id said before is =
    let kept = kept_taken core id said in
    let now = ap (λ (p : ProxyView). length p.outstanding) is in
    omega (arith, before, kept, now)

pub invariant_of-self : goal.invariant_of-self
invariant_of-self c =
    let before : length c.self.inside.touched.items + length c.self.inside.core.outstanding ≤ vec_capacity c.self.inside.touched = c.self.invariant in
    let fewer = fewer_taken c.self.inside.core c.sheet.result.now.id c.args.said c.in-Answered.answer (sym c.in-Answered.ensures.taken) in
    let now = ap (λ (p : ProxyView). length p.outstanding) c.take_reply.ensures.state in
    let more = ap length c.push_reserved.ensures.items ∙ length_push c.self.inside.touched.items c.args.client in
    let is : length c.push_reserved.new.self.items + length c.take_reply.new.self.outstanding ≤ vec_capacity c.push_reserved.new.self =
    omega (arith, before, fewer, now, more, c.push_reserved.ensures.capacity) in
    is

pub invariant_of-self-in_default : goal.invariant_of-self-in_default
invariant_of-self-in_default c = still_fits _ _ c.self.inside.core _ c.sheet.result.now.id c.args.said c.self.invariant c.take_reply.ensures.state

pub invariant_of-self-in_default-2 : goal.invariant_of-self-in_default-2
invariant_of-self-in_default-2 c = still_fits _ _ c.self.inside.core _ c.sheet.result.now.id c.args.said c.self.invariant c.take_reply.ensures.state

pub invariant_of-self-in_default-3 : goal.invariant_of-self-in_default-3
invariant_of-self-in_default-3 c = still_fits _ _ c.self.inside.core _ c.sheet.result.now.id c.args.said c.self.invariant c.take_reply.ensures.state

pub invariant_of-self-in_default-4 : goal.invariant_of-self-in_default-4
invariant_of-self-in_default-4 c = still_fits _ _ c.self.inside.core _ c.sheet.result.now.id c.args.said c.self.invariant c.take_reply.ensures.state

pub invariant_of-self-in_default-5 : goal.invariant_of-self-in_default-5
invariant_of-self-in_default-5 c = still_fits _ _ c.self.inside.core _ c.sheet.result.now.id c.args.said c.self.invariant c.take_reply.ensures.state
