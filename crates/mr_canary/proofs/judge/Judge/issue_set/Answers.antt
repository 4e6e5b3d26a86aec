use Rattle.std.proofs.Common.{◌≡◌, ◌∙◌, ◌<◌, [], ◌∷◌, ◌++◌, Some, ap, arith, length, nat_eq, refl, subst, sym, vec_len}
use Rattle.std.specs.HashMap.{Updates}
use Rattle.mr_history.specs.Places.{At}
use Rattle.mr_history.proofs.Lists.{at_one, at_read}
use Rattle.mr_canary.specs.declared.note.Probe.{Probe}
use Rattle.mr_canary.specs.declared.note.Asked.TheVariants as asks
use Rattle.mr_canary.specs.declared.waiting.Waiting.TheVariants as waits
use Rattle.mr_canary.specs.JudgeView.{JudgeView}
use Rattle.mr_canary.specs.steps.Knowing.{IsNext}
use Rattle.mr_canary.specs.steps.Watched.{WatchedView, kept_of}
use Rattle.mr_canary.proofs.NoteLemmas.{sets_few}
use Rattle.mr_canary.specs.declared.note.Note.TheVariants.{Issued}
use Rattle.mr_canary.proofs.KeysLemmas.{judge_with, kept_at, kept_more}
use Rattle.mr_canary.proofs.RequestLemmas.{issue_verdicts, same_known, set_issued, still_knows, undone}
use Rattle.mr_canary.proofs.judge.Judge.issue_set.Goals as goal

pub returns-then-kept-self-clause-issued : goal.returns-then-kept-self-clause-issued
returns-then-kept-self-clause-issued c =
    let next : IsNext (record { notes = c.self.inside.past; keys = vec_len c.self.inside.keys; kept = kept_of c.self.inside.keys.items; room = c.self.inside.room }) c.args.client c.args.time c.args.key c.in_ok-probe.probe c.in_ok-probe.next =
    subst (λ (v : JudgeView). IsNext v c.args.client c.args.time c.args.key c.in_ok-probe.probe c.in_ok-probe.next) (sym c.self.view_is) c.in_ok-probe.ensures in
    let sized = c.self.inside.keys.ok.0 in
    let below : c.args.key < vec_len c.self.inside.keys = next.there in
    let within : c.args.key < length c.self.inside.keys.items = omega arith in
    let there = at_read c.self.inside.keys.items c.args.key c.index-2.result.now within c.index-2.ensures in
    let counted = kept_at c.self.inside.keys.items c.args.key c.index-2.result.now there in
    let kept = c.kept.ensures in
    let full = c.if-kept-self.true in
    rw (← c.self.view_is) (omega arith, refl)

pub add_set-requires : goal.add_set-requires
add_set-requires c =
    let next : IsNext (record { notes = c.self.inside.past; keys = vec_len c.self.inside.keys; kept = kept_of c.self.inside.keys.items; room = c.self.inside.room }) c.args.client c.args.time c.args.key c.in_ok-probe.probe c.in_ok-probe.next =
    subst (λ (v : JudgeView). IsNext v c.args.client c.args.time c.args.key c.in_ok-probe.probe c.in_ok-probe.next) (sym c.self.view_is) c.in_ok-probe.ensures in
    let sized = c.self.inside.keys.ok.0 in
    let below : c.args.key < vec_len c.self.inside.keys = next.there in
    let within : c.args.key < length c.self.inside.keys.items = omega arith in
    let known = c.self.invariant.keys_known c.args.key c.index_mut.result.now (at_read c.self.inside.keys.items c.args.key c.index_mut.result.now within c.index_mut.ensures.value) in
    let counted = known.counted in
    let few = sets_few c.self.inside.past c.args.key in
    let long = next.next_is in
    let fits = next.fits in
    omega arith

pub returns-in-Ok-clause-value : goal.returns-in-Ok-clause-value
returns-in-Ok-clause-value c =
    let next : IsNext (record { notes = c.self.inside.past; keys = vec_len c.self.inside.keys; kept = kept_of c.self.inside.keys.items; room = c.self.inside.room }) c.args.client c.args.time c.args.key c.in_ok-probe.probe c.in_ok-probe.next =
    subst (λ (v : JudgeView). IsNext v c.args.client c.args.time c.args.key c.in_ok-probe.probe c.in_ok-probe.next) (sym c.self.view_is) c.in_ok-probe.ensures in
    let sized = c.self.inside.keys.ok.0 in
    let below : c.args.key < vec_len c.self.inside.keys = next.there in
    let within : c.args.key < length c.self.inside.keys.items = omega arith in
    let there = at_read c.self.inside.keys.items c.args.key c.index.result.now within c.index.ensures in
    let known = c.self.invariant.keys_known c.args.key c.index.result.now there in
    rw (← c.self.view_is) (c.sets-value.ensures ∙ known.counted)

pub invariant_of-self-in-Ok : goal.invariant_of-self-in-Ok
invariant_of-self-in-Ok c =
    let next : IsNext (record { notes = c.self.inside.past; keys = vec_len c.self.inside.keys; kept = kept_of c.self.inside.keys.items; room = c.self.inside.room }) c.args.client c.args.time c.args.key c.in_ok-probe.probe c.in_ok-probe.next =
    subst (λ (v : JudgeView). IsNext v c.args.client c.args.time c.args.key c.in_ok-probe.probe c.in_ok-probe.next) (sym c.self.view_is) c.in_ok-probe.ensures in
    let sized = c.self.inside.keys.ok.0 in
    let below : c.args.key < vec_len c.self.inside.keys = next.there in
    let within : c.args.key < length c.self.inside.keys.items = omega arith in
    let items = c.self.inside.keys.items in
    let old = c.index_mut.result.now in
    let there : At items c.args.key old = at_read items c.args.key old within c.index_mut.ensures.value in
    let same : c.index.result.now ≡ old = at_one (at_read items c.args.key c.index.result.now within c.index.ensures) there in
    let same' : c.index-2.result.now ≡ old = at_one (at_read items c.args.key c.index-2.result.now within c.index-2.ensures) there in
    let value : c.sets-value.result ≡ old.sets = c.sets-value.ensures ∙ ap (λ (w : WatchedView). w.sets) same in
    let kept : c.kept.result ≡ length old.kept = c.kept.ensures ∙ ap (λ (w : WatchedView). length w.kept) same' in
    let fits : length old.kept < c.self.inside.room = (let l = c.if-kept-self.false in omega arith) in
    let put : Updates nat_eq c.self.inside.waiting c.wait.new.waiting c.in_ok-probe.probe.number (Some (waits.Set c.in_ok-probe.probe old.sets)) =
    subst (λ v. Updates nat_eq c.self.inside.waiting c.wait.new.waiting c.in_ok-probe.probe.number (Some (waits.Set c.in_ok-probe.probe v))) value c.in_ok-wait.ensures.ok in
    rw (c.add.ensures, c.in-Ok.ensures.ok, value)
    (set_issued c.self.inside.past items c.self.inside.waiting c.wait.new.waiting c.self.inside.count c.self.inside.room c.self.invariant
    c.args.client c.args.time c.args.key (vec_len c.self.inside.keys) c.in_ok-probe.next (kept_of c.self.inside.keys.items) c.in_ok-probe.probe old next there fits put)

pub invariant_of-self-in-Err : goal.invariant_of-self-in-Err
invariant_of-self-in-Err c =
    let next : IsNext (record { notes = c.self.inside.past; keys = vec_len c.self.inside.keys; kept = kept_of c.self.inside.keys.items; room = c.self.inside.room }) c.args.client c.args.time c.args.key c.in_ok-probe.probe c.in_ok-probe.next =
    subst (λ (v : JudgeView). IsNext v c.args.client c.args.time c.args.key c.in_ok-probe.probe c.in_ok-probe.next) (sym c.self.view_is) c.in_ok-probe.ensures in
    let sized = c.self.inside.keys.ok.0 in
    let below : c.args.key < vec_len c.self.inside.keys = next.there in
    let within : c.args.key < length c.self.inside.keys.items = omega arith in
    let items = c.self.inside.keys.items in
    let old = c.index_mut.result.now in
    let there : At items c.args.key old = at_read items c.args.key old within c.index_mut.ensures.value in
    let numbered : c.in_ok-probe.probe.number ≡ length c.self.inside.past = ap (λ (p : Probe). p.number) next.probe_is in
    let knows = still_knows c.self.inside.past items c.self.inside.waiting c.remove.new.self c.self.inside.count c.self.inside.room c.self.invariant
    (undone c.self.inside.past items c.self.inside.waiting c.wait.new.waiting c.self.inside.count c.self.inside.room c.self.invariant
    c.in_ok-probe.probe.number (waits.Set c.in_ok-probe.probe c.sets-value.result) c.remove.new.self numbered c.in_ok-wait.ensures.ok c.remove.ensures.updates) in
    rw c.in-Err.ensures.err (record {
      counted = knows.counted;
      ordered = knows.ordered;
      keys_known = same_known c.self.inside.past c.self.inside.room c.args.key items old there knows.keys_known;
      waiting_known = knows.waiting_known;
    })

pub returns-in-Ok-clause-verdicts : goal.returns-in-Ok-clause-verdicts
returns-in-Ok-clause-verdicts c = rw (← c.self.view_is, c.add.ensures)
    (issue_verdicts c.self.inside.past c.self.inside.keys.items c.self.inside.waiting c.wait.new.waiting c.self.inside.count c.self.inside.room c.self.invariant c.in_ok-probe.probe (asks.Set c.sets-value.result))

pub returns-in-Ok-clause-issued : goal.returns-in-Ok-clause-issued
returns-in-Ok-clause-issued c =
    let next : IsNext (record { notes = c.self.inside.past; keys = vec_len c.self.inside.keys; kept = kept_of c.self.inside.keys.items; room = c.self.inside.room }) c.args.client c.args.time c.args.key c.in_ok-probe.probe c.in_ok-probe.next =
    subst (λ (v : JudgeView). IsNext v c.args.client c.args.time c.args.key c.in_ok-probe.probe c.in_ok-probe.next) (sym c.self.view_is) c.in_ok-probe.ensures in
    let sized = c.self.inside.keys.ok.0 in
    let below : c.args.key < vec_len c.self.inside.keys = next.there in
    let within : c.args.key < length c.self.inside.keys.items = omega arith in
    let items = c.self.inside.keys.items in
    let there = at_read items c.args.key c.index_mut.result.now within c.index_mut.ensures.value in
    record {
      probe_is = c.in_ok-probe.ensures.probe_is;
      new_is = rw (← c.self.view_is, c.add.ensures, c.in-Ok.ensures.ok)
          (judge_with (c.self.inside.past ++ Issued c.in_ok-probe.probe (asks.Set c.sets-value.result) ∷ []) (vec_len c.self.inside.keys) c.self.inside.room _ _
          (kept_more items c.args.key c.index_mut.result.now there));
    }
