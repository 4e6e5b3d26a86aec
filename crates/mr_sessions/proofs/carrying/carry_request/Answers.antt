use Rattle.std.proofs.Common.{◌≡◌, ◌∙◌, List, true, false, refl, sym, ap, subst, map, inr}
use Rattle.mr_sessions.specs.declared.destinations.Destination.{Destination}
use Rattle.mr_sessions.specs.Own.{issued_of}
use Rattle.mr_sessions.specs.steps.Destinations.{destination_of, WentAs}
use Rattle.mr_sessions.proofs.OwnLemmas.{is_own, own_went}
use Rattle.mr_sessions.proofs.carrying.carry_request.Goals as goal

pub returns-then-is_answer_to-clause-own : goal.returns-then-is_answer_to-clause-own
returns-then-is_answer_to-clause-own g c =
    let went : WentAs _ _ _ _ = c.if-is_answer_to.ensures.same.0 refl in
    is_own (issued_of c.args.issued.op c.args.request.now c.args.issued.legs.items) c.in_ok-answer.answer c.requires.legs went.same_op went.same_request
    (went.went ∙ c.as_slice-2.ensures.value ∙ c.note.ensures.destinations ∙ ap (map destination_of) c.as_slice.ensures.value)
    (c.if-is_answer_to.ensures.whole refl)

pub returns-else-is_answer_to-clause-unanswered : goal.returns-else-is_answer_to-clause-unanswered
returns-else-is_answer_to-clause-unanswered g c = record {
  unanswered = inr (
    c.in_ok-answer.answer,
    c.in_ok-answer.ensures.given,
    λ own.
        (let went = own_went (issued_of c.args.issued.op c.args.request.now c.args.issued.legs.items) c.in_ok-answer.answer own in
        let noted = c.as_slice-2.ensures.value ∙ c.note.ensures.destinations ∙ ap (map destination_of) c.as_slice.ensures.value in
        let both : false ≡ true = c.if-is_answer_to.ensures.same.1
        (subst (λ (l : List Destination). WentAs c.args.issued.op c.args.request.now l c.in_ok-answer.answer) (sym noted) went) in
        cc),
  );
  given_up = c.in_ok-answer.answer.given_up;
  carried = c.in_ok-answer.ensures.carried;
}
