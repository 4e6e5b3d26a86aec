use Rattle.std.proofs.Common.{subst, sym, vec_len}
use Rattle.mr_canary.specs.declared.note.Asked.TheVariants.{Set}
use Rattle.mr_canary.specs.declared.note.Asked.TheVariants as asks
use Rattle.mr_canary.specs.JudgeView.{JudgeView}
use Rattle.mr_canary.specs.steps.Watched.{kept_of}
use Rattle.mr_canary.specs.steps.Knowing.{IsNext}
use Rattle.mr_canary.proofs.RequestLemmas.{delete_issued, issue_verdicts}
use Rattle.mr_canary.proofs.judge.Judge.issue_delete.Goals as goal

pub invariant_of-self-2 : goal.invariant_of-self-2
invariant_of-self-2 c =
    let next : IsNext (record { notes = c.self.inside.past; keys = vec_len c.self.inside.keys; kept = kept_of c.self.inside.keys.items; room = c.self.inside.room }) c.args.client c.args.time c.args.key c.in_ok-probe.probe c.in_ok-probe.next =
    subst (λ (v : JudgeView). IsNext v c.args.client c.args.time c.args.key c.in_ok-probe.probe c.in_ok-probe.next) (sym c.self.view_is) c.in_ok-probe.ensures in
    rw c.add.ensures
    (delete_issued c.self.inside.past c.self.inside.keys.items c.self.inside.waiting c.wait.new.waiting c.self.inside.count c.self.inside.room c.self.invariant
    c.args.client c.args.time c.args.key (vec_len c.self.inside.keys) c.in_ok-probe.next (kept_of c.self.inside.keys.items) c.in_ok-probe.probe next c.in_ok-wait.ensures.ok)

pub returns-clause-verdicts : goal.returns-clause-verdicts
returns-clause-verdicts c = rw (← c.self.view_is, c.add.ensures)
    (issue_verdicts c.self.inside.past c.self.inside.keys.items c.self.inside.waiting c.wait.new.waiting c.self.inside.count c.self.inside.room c.self.invariant c.in_ok-probe.probe asks.Delete)
