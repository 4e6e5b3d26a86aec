use Rattle.std.proofs.Common.{◌<◌, arith, length, subst, sym, vec_len}
use Rattle.mr_history.specs.Places.{At}
use Rattle.mr_history.proofs.Lists.{at_read}
use Rattle.mr_canary.specs.declared.note.Asked.TheVariants.{Set}
use Rattle.mr_canary.specs.declared.note.Asked.TheVariants as asks
use Rattle.mr_canary.specs.JudgeView.{JudgeView}
use Rattle.mr_canary.specs.steps.Watched.{kept_of}
use Rattle.mr_canary.specs.steps.Knowing.{IsNext}
use Rattle.mr_canary.proofs.RequestLemmas.{get_issued, issue_verdicts}
use Rattle.mr_canary.proofs.judge.Judge.issue_get.Goals as goal

pub invariant_of-self-2 : goal.invariant_of-self-2
invariant_of-self-2 c =
    let next : IsNext (record { notes = c.self.inside.past; keys = vec_len c.self.inside.keys; kept = kept_of c.self.inside.keys.items; room = c.self.inside.room }) c.args.client c.args.time c.args.key c.in_ok-probe.probe c.in_ok-probe.next =
    subst (λ (v : JudgeView). IsNext v c.args.client c.args.time c.args.key c.in_ok-probe.probe c.in_ok-probe.next) (sym c.self.view_is) c.in_ok-probe.ensures in
    let sized = c.self.inside.keys.ok.0 in
    let below : c.args.key < vec_len c.self.inside.keys = next.there in
    let within : c.args.key < length c.self.inside.keys.items = omega arith in
    let there : At c.self.inside.keys.items c.args.key c.in_ok-watched.watched =
    subst (λ w. At c.self.inside.keys.items c.args.key w) (sym c.in_ok-watched.ensures) (at_read c.self.inside.keys.items c.args.key c.index.result.now within c.index.ensures) in
    rw c.add.ensures
    (get_issued c.self.inside.past c.self.inside.keys.items c.self.inside.waiting c.wait.new.waiting c.self.inside.count c.self.inside.room c.self.invariant
    c.args.client c.args.time c.args.key (vec_len c.self.inside.keys) c.in_ok-probe.next (kept_of c.self.inside.keys.items) c.in_ok-probe.probe c.in_ok-watched.watched next there c.in_ok-wait.ensures.ok)

pub returns-clause-verdicts : goal.returns-clause-verdicts
returns-clause-verdicts c = rw (← c.self.view_is, c.add.ensures)
    (issue_verdicts c.self.inside.past c.self.inside.keys.items c.self.inside.waiting c.wait.new.waiting c.self.inside.count c.self.inside.room c.self.invariant c.in_ok-probe.probe asks.Get)
