use Rattle.std.proofs.Common.{◌≡◌, ◌∙◌, ◌+◌, ◌<◌, ◌≤◌, ◌^◌, ℕ, List, length, get_or, refl, sym, ap, subst, arith, ltb-true}
use Rattle.std.specs.Prelude.{slice_index}
use Rattle.std.proofs.lemmas.List.{get_or_read}
use Rattle.mr_canary.specs.Notes.{sets_of}
use Rattle.mr_canary.proofs.NoteLemmas.{sets_few}
use Rattle.mr_probes.proofs.NotebookLemmas.{issued_set, kept_by}
use Rattle.mr_probes.proofs.notebook.Notebook.issue_set.Goals as goal

pub returns-in_default-checked_add : goal.returns-in_default-checked_add
returns-in_default-checked_add c =
    let items = c.self.inside.sets.items in
    let key = c.args.wish.key in
    let within : key < length items = subst (λ (l : List ℕ). key < length l) c.deref.ensures.value (ltb-true key (length c.deref.result.now) (sym c.in-Some.ensures.lookup.0)) in
    let read : c.in-Some.sets.now ≡ get_or items key c.in-Some.sets.now = c.in-Some.ensures.lookup.1 ∙ ap (λ (l : List ℕ). get_or l key c.in-Some.sets.now) c.deref.ensures.value in
    let is : c.in-Some.sets.now ≡ sets_of c.self.inside.judge.notes key = get_or_read items key c.in-Some.sets.now within read 0 ∙ c.self.invariant.counted key in
    let few = sets_few c.self.inside.judge.notes key in
    let full : 2 ^ 64 ≤ c.in-Some.sets.now + 1 = omega (arith, c.in_default-checked_add.ensures) in
    rw (← c.self.view_is) (omega (arith, few, is, full), refl)

pub invariant_of-self : goal.invariant_of-self
invariant_of-self c = kept_by c.self.inside c.issue_set.new.self c.in_err-probe.ensures.issued.1 c.self.invariant

pub invariant_of-self-2 : goal.invariant_of-self-2
invariant_of-self-2 c =
    let items = c.self.inside.sets.items in
    let key = c.args.wish.key in
    let within : key < length items = subst (λ (l : List ℕ). key < length l) c.deref.ensures.value (ltb-true key (length c.deref.result.now) (sym c.in-Some.ensures.lookup.0)) in
    let read : c.in-Some.sets.now ≡ get_or items key c.in-Some.sets.now = c.in-Some.ensures.lookup.1 ∙ ap (λ (l : List ℕ). get_or l key c.in-Some.sets.now) c.deref.ensures.value in
    let is : c.in-Some.sets.now ≡ slice_index items key = get_or_read items key c.in-Some.sets.now within read 0 in
    let more : c.in-Some-checked_add.more ≡ slice_index items key + 1 = c.in-Some-checked_add.ensures.1 ∙ ap (λ (n : ℕ). n + 1) is in
    issued_set c.self.inside c.issue_set.new.self c.args.client c.args.now key c.in_ok-probe.field-0-1 c.in-Some-checked_add.more c.in_ok-probe.probe
    c.in_ok-probe.ensures.issued c.in_ok-probe.ensures.verdicts c.self.invariant within more
