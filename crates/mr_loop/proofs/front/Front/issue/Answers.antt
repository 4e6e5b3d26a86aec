use Rattle.std.proofs.Common.{◌≡◌, ◌<◌, ℕ, List, ◌∷◌, Some, length, slice_set, refl, ap, ◌∙◌, arith}
use Rattle.std.specs.Prelude.{slice_get}
use Rattle.std.proofs.lemmas.List.{get_or-set_same}
use Rattle.std.proofs.lemmas.Option.{slice_get_read}
use Rattle.mr_loop.specs.declared.client.Client.{Client}
use Rattle.mr_loop.specs.declared.turns.Turn.{Turn}
use Rattle.mr_loop.specs.declared.turns.Turn.TheVariants.{Waits}
use Rattle.mr_loop.specs.Asking.{tells, denial}
use Rattle.mr_loop.specs.Counts.{with_denied}
use Rattle.mr_loop.specs.Events.{FrontView, Event, with_turn, after_all}
use Rattle.mr_loop.specs.steps.Asking.{cause_of}
use Rattle.mr_loop.proofs.DenyLemmas.{denied_front, client_of}
use Rattle.mr_loop.proofs.FlushLemmas.{front_of}
use Rattle.mr_loop.proofs.IssueLemmas.{told_so}
use Rattle.mr_loop.proofs.front.Front.issue.Goals as goal

pub returns-in-Err-issue : goal.returns-in-Err-issue
returns-in-Err-issue c =
    let at : ℕ = c.args.asker.client in
    let clients : List Client = c.self.inside.clients.items in
    let old : Client = c.index_mut.result.now in
    let within : c.args.asker.client < length c.self.inside.clients.items = omega (arith, c.self.inside.clients.ok.0) in
    let there : slice_get clients at ≡ Some old = slice_get_read _ _ _ _ refl within c.index_mut.ensures.value in
    let turn : Turn = Waits c.next_op-op.result in
    let one : Client = client_of c.push.new.self old.out in
    let pushed : one ≡ with_turn turn old = ap (λ t. client_of t old.out) c.in_default-push.ensures.pushed in
    let items : List Client = slice_set clients at one in
    let now : Client = c.index_mut-in-Err-issue.result.now in
    let is : now ≡ with_turn turn old = c.index_mut-in-Err-issue.ensures.value ∙ get_or-set_same clients at one now within ∙ pushed in
    let said : c.denial-denial.result ≡ denial c.args.request (cause_of c.in-Err-issue.refusal) =
    c.denial-denial.ensures ∙ ap (λ k. denial c.in-Err-issue.request k) c.cause_of-cause.ensures
    ∙ ap (λ r. denial r (cause_of c.in-Err-issue.refusal)) c.in-Err-issue.ensures.unchanged.1 in
    let counted : c.add_denial.new.self ≡ with_denied (cause_of c.in-Err-issue.refusal) c.self.inside.counts =
    c.add_denial.ensures ∙ ap (λ k. with_denied k c.self.inside.counts) c.cause_of-cause.ensures in
    let before : FrontView = front_of c.self.inside.core clients c.self.inside.touched.items c.self.inside.counts in
    let front = denied_front c.self.inside.core c.issue.new.self clients items c.self.inside.touched.items c.reserve.new.self.items
    c.self.inside.counts c.add_denial.new.self at old now turn c.deny.new.self (cause_of c.in-Err-issue.refusal)
    c.denial-denial.result there is c.deny.ensures (ap (λ x. slice_set clients at x) pushed) c.in-Err-issue.ensures.unchanged.0 c.reserve.ensures.items counted in
    rw (← c.self.view_is)
    (told_so c.args.asker c.args.request before
    (front_of c.issue.new.self (slice_set items at (client_of c.deny.new.self now.out)) c.reserve.new.self.items c.add_denial.new.self) c.in-Err-issue.refusal
    (rw (← c.self.view_is) at c.requires.room) c.in-Err-issue.ensures.refused
    (front ∙ ap (λ d. after_all (Event.Denies (cause_of c.in-Err-issue.refusal) ∷ tells at d) before) said))
