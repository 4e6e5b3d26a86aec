use Rattle.std.proofs.Common.{◌≡◌, ◌+◌, ◌≤◌, ℕ, List, Some, get_or, length, slice_set, ap, ◌∙◌, arith}
use Rattle.std.specs.Prelude.{slice_get}
use Rattle.std.proofs.lemmas.List.{get_or-set_same}
use Rattle.std.proofs.lemmas.Option.{slice_get-get_or}
use Rattle.mr_history.specs.declared.op_id.OpId.{OpId}
use Rattle.mr_proxy.specs.Issue.{next_op, after_issue}
use Rattle.mr_proxy.specs.ProxyView.{ProxyView}
use Rattle.mr_proxy.specs.Transitions.{after_give_up}
use Rattle.mr_text.specs.declared.cause.Cause.TheVariants.{OutOfMemory}
use Rattle.mr_loop.specs.declared.client.Client.{Client}
use Rattle.mr_loop.specs.declared.counts.LoopCounts.{LoopCounts}
use Rattle.mr_loop.specs.declared.turns.Turn.{Turn}
use Rattle.mr_loop.specs.declared.turns.Turn.TheVariants.{Waits}
use Rattle.mr_loop.specs.Counts.{with_denied}
use Rattle.mr_loop.specs.Events.{FrontView, changed, with_turn}
use Rattle.mr_loop.proofs.CoreLemmas.{kept_given_up}
use Rattle.mr_loop.proofs.DenyLemmas.{denied_front}
use Rattle.mr_loop.proofs.FlushLemmas.{front_of}
use Rattle.mr_loop.proofs.PlaceLemmas.{changes}
use Rattle.mr_loop.proofs.front.Front.withdraw.Goals as goal

-- as many requests are under way as before, or one less
still_fits : (touched capacity : ℕ) (core new : ProxyView) (op : OpId) → touched + length core.outstanding ≤ capacity → new ≡ after_give_up core op
    → touched + length new.outstanding ≤ capacity
still_fits touched capacity core new op before is =
    let kept = kept_given_up core op in
    let now = ap (λ (p : ProxyView). length p.outstanding) is in
    omega (arith, before, kept, now)

pub returns-then-client-len : goal.returns-then-client-len
returns-then-client-len c = λ reading request before within op e.
    let at : ℕ = c.args.client in
    let items : List Client = c.self.inside.clients.items in
    let now : Client = c.index_mut.result.now in
    let turn : Turn = Waits (next_op before.core) in
    let whole : front_of c.self.inside.core items c.self.inside.touched.items c.self.inside.counts
    ≡ front_of (after_issue before.core reading request) (changed at (with_turn turn) before.clients) before.touched before.counts = c.self.view_is ∙ e in
    let core : c.self.inside.core ≡ after_issue before.core reading request = ap (λ (f : FrontView). f.core) whole in
    let old : Client = get_or before.clients at now in
    let there : slice_get before.clients at ≡ Some old = slice_get-get_or before.clients at now within in
    let written : items ≡ slice_set before.clients at (with_turn turn old) = ap (λ (f : FrontView). f.clients) whole ∙ changes before.clients at old (with_turn turn) there in
    let read : now ≡ get_or items at now = c.index_mut.ensures.value in
    let is : now ≡ with_turn turn old = read ∙ ap (λ l. get_or l at now) written ∙ get_or-set_same before.clients at (with_turn turn old) now within in
    let given : c.give_up.new.self ≡ after_give_up (after_issue before.core reading request) (next_op before.core) =
    c.give_up.ensures.state ∙ ap (λ p. after_give_up p c.args.op) core ∙ ap (λ (o : OpId). after_give_up (after_issue before.core reading request) o) op in
    let counted : c.add_denial.new.self ≡ with_denied OutOfMemory before.counts =
    c.add_denial.ensures ∙ ap (λ (k : LoopCounts). with_denied OutOfMemory k) (ap (λ (f : FrontView). f.counts) whole) in
    denied_front (after_give_up (after_issue before.core reading request) (next_op before.core)) c.give_up.new.self before.clients items before.touched c.self.inside.touched.items
    before.counts c.add_denial.new.self at old now turn c.deny.new.self OutOfMemory c.args.denial there is c.deny.ensures written given
    (ap (λ (f : FrontView). f.touched) whole) counted

pub invariant_of-self : goal.invariant_of-self
invariant_of-self c = still_fits _ _ c.self.inside.core _ c.args.op c.self.invariant c.give_up.ensures.state

pub invariant_of-self-else-client-len : goal.invariant_of-self-else-client-len
invariant_of-self-else-client-len c = still_fits _ _ c.self.inside.core _ c.args.op c.self.invariant c.give_up.ensures.state

pub invariant_of-self-else-client-len-2 : goal.invariant_of-self-else-client-len-2
invariant_of-self-else-client-len-2 c = still_fits _ _ c.self.inside.core _ c.args.op c.self.invariant c.give_up.ensures.state

pub invariant_of-self-else-client-len-3 : goal.invariant_of-self-else-client-len-3
invariant_of-self-else-client-len-3 c = still_fits _ _ c.self.inside.core _ c.args.op c.self.invariant c.give_up.ensures.state

pub invariant_of-self-else-client-len-4 : goal.invariant_of-self-else-client-len-4
invariant_of-self-else-client-len-4 c = still_fits _ _ c.self.inside.core _ c.args.op c.self.invariant c.give_up.ensures.state

pub invariant_of-self-else-client-len-5 : goal.invariant_of-self-else-client-len-5
invariant_of-self-else-client-len-5 c = still_fits _ _ c.self.inside.core _ c.args.op c.self.invariant c.give_up.ensures.state

pub invariant_of-self-else-client-len-6 : goal.invariant_of-self-else-client-len-6
invariant_of-self-else-client-len-6 c = still_fits _ _ c.self.inside.core _ c.args.op c.self.invariant c.give_up.ensures.state

pub invariant_of-self-else-client-len-7 : goal.invariant_of-self-else-client-len-7
invariant_of-self-else-client-len-7 c = still_fits _ _ c.self.inside.core _ c.args.op c.self.invariant c.give_up.ensures.state
