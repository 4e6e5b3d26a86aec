use Rattle.std.proofs.Common.{◌≡◌, ◌∙◌, ◌+◌, Some, ap, arith, length, nat_eq, subst, sym}
use Rattle.std.specs.HashMap.{get}
use Rattle.mr_canary.specs.steps.Knowing.{StaysKnown}
use Rattle.mr_canary.proofs.RequestLemmas.{answer_judged, answer_noted, answer_verdicts, waits_known, written}
use Rattle.mr_canary.proofs.judge.Judge.answered.Goals as goal

pub invariant_of-self-2 : goal.invariant_of-self-2
invariant_of-self-2 c =
    let items = c.self.inside.keys.items in
    let new = c.take_answer-found.new.keys in
    let value : c.deref_mut.result.now ≡ items = c.deref_mut.ensures.value in
    let long : length new ≡ length items = c.take_answer-found.ensures.many ∙ ap (λ (l : _). length l) value in
    let back = written new items c.self.inside.keys.len long c.self.inside.keys.ok.0 in
    let was : get nat_eq c.self.inside.waiting c.args.number ≡ Some c.in-Some-remove.request = sym c.remove.ensures.value ∙ c.in-Some-remove.is in
    let next_is : c.in-Some.next ≡ c.self.inside.count + 1 = (let e = c.in-Some.ensures in omega arith) in
    let stays : StaysKnown c.in-Some-remove.request c.args.answer c.self.inside.count items new =
    subst (λ (k : _). StaysKnown c.in-Some-remove.request c.args.answer c.self.inside.count k new) value c.take_answer-found.ensures.known in
    rw (c.add.ensures, back)
    (answer_noted c.self.inside.past items c.self.inside.waiting c.remove.new.self c.self.inside.count c.self.inside.room c.self.invariant
    c.args.number c.in-Some.next c.args.answer c.in-Some-remove.request new next_is was stays c.remove.ensures.updates)

pub returns-clause-judged : goal.returns-clause-judged
returns-clause-judged c =
    let was : get nat_eq c.self.inside.waiting c.args.number ≡ Some c.in-Some-remove.request = sym c.remove.ensures.value ∙ c.in-Some-remove.is in
    rw c.add.ensures
    (answer_judged c.self.inside.past c.self.inside.keys.items c.self.inside.waiting c.remove.new.self c.self.inside.count c.self.inside.room c.self.invariant
    c.args.number c.args.answer c.in-Some-remove.request c.take_answer-found.result was c.take_answer-found.ensures.judged)

pub returns-clause-waited : goal.returns-clause-waited
returns-clause-waited c =
    let was : get nat_eq c.self.inside.waiting c.args.number ≡ Some c.in-Some-remove.request = sym c.remove.ensures.value ∙ c.in-Some-remove.is in
    rw (← c.self.view_is)
    (waits_known c.self.inside.past c.self.inside.keys.items c.self.inside.waiting c.remove.new.self c.self.inside.count c.self.inside.room c.self.invariant
    c.args.number c.in-Some-remove.request was)

pub returns-clause-verdicts : goal.returns-clause-verdicts
returns-clause-verdicts c =
    let was : get nat_eq c.self.inside.waiting c.args.number ≡ Some c.in-Some-remove.request = sym c.remove.ensures.value ∙ c.in-Some-remove.is in
    rw (← c.self.view_is, c.add.ensures)
    (answer_verdicts c.self.inside.past c.self.inside.keys.items c.self.inside.waiting c.remove.new.self c.self.inside.count c.self.inside.room c.self.invariant
    c.args.number c.args.answer c.in-Some-remove.request was)
