use Rattle.std.proofs.Common.{◌+◌, ◌≤◌, length, vec_capacity, ap, ◌∙◌, arith}
use Rattle.std.proofs.lemmas.List.{length_push}
use Rattle.mr_proxy.specs.ProxyView.{ProxyView}
use Rattle.mr_loop.proofs.CoreLemmas.{fewer_given_up}
use Rattle.mr_loop.proofs.front.Front.give_up.Goals as goal

pub invariant_of-self : goal.invariant_of-self
invariant_of-self c =
    let before : length c.self.inside.touched.items + length c.self.inside.core.outstanding ≤ vec_capacity c.self.inside.touched = c.self.invariant in
    let fewer = fewer_given_up c.self.inside.core c.args.op c.in-Ok.answer c.in-Ok.ensures.answer in
    let now = ap (λ (p : ProxyView). length p.outstanding) c.give_up.ensures.state in
    let more = ap length c.push_reserved.ensures.items ∙ length_push c.self.inside.touched.items c.args.client in
    let is : length c.push_reserved.new.self.items + length c.give_up.new.self.outstanding ≤ vec_capacity c.push_reserved.new.self =
    omega (arith, before, fewer, now, more, c.push_reserved.ensures.capacity) in
    is
