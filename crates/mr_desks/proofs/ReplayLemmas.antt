-- One more step of a book that is made again.
use Rattle.std.proofs.Common.{◌≡◌, ◌∙◌, ℕ, ◌+◌, ◌<◌, List, [], ◌∷◌, ◌++◌, length, drop, slice_index_or, Option, Some, None, ap, subst, sym, append_assoc}
use Rattle.mr_proxy.specs.Answer.{AnswerView}
use Rattle.mr_proxy.specs.ProxyView.{ProxyView}
use Rattle.mr_proxy.specs.Replay.{after, answer_at, answers_of, with_answer}
use Rattle.mr_proxy.specs.declared.step.Step.{Step}
use Rattle.mr_desks.specs.Books.{IsBookStep, AreSteps}
use Rattle.mr_desks.proofs.ClosingLemmas.{rest_is}

module _ (p p' : ProxyView) (steps : List Step) (i : ℕ) (step : Step) (in_range : i < length steps) (is : step ≡ slice_index_or steps i step)
    (made : p' ≡ after p step) where
  -- the steps left are steps of the proxy after this one
  pub steps_left : AreSteps p (drop i steps) → AreSteps p' (drop (i + 1) steps)
  steps_left are =
      subst (λ (q : ProxyView). AreSteps q (drop (i + 1) steps)) (sym made) (subst (AreSteps p) (rest_is steps i step in_range is) are).1

  -- what the steps left gave is the answer of this one, and what those behind it give
  answers_left : answers_of p (drop i steps) ≡ with_answer (answer_at p step) (answers_of p' (drop (i + 1) steps))
  answers_left =
      ap (answers_of p) (rest_is steps i step in_range is)
      ∙ ap (λ (q : ProxyView). with_answer (answer_at p step) (answers_of q (drop (i + 1) steps))) (sym made)

  module _ (answers all : List AnswerView) (so : answers ++ answers_of p (drop i steps) ≡ all) where
    pub one_answer : (answers' : List AnswerView) (answer : AnswerView) → Some answer ≡ answer_at p step → answers' ≡ answers ++ answer ∷ []
        → answers' ++ answers_of p' (drop (i + 1) steps) ≡ all
    one_answer answers' answer given pushed =
        let rest = answers_of p' (drop (i + 1) steps) in
        ap (λ (l : List AnswerView). l ++ rest) pushed ∙ append_assoc answers (answer ∷ []) rest
        ∙ ap (λ (o : Option AnswerView). answers ++ with_answer o rest) given
        ∙ ap (λ (l : List AnswerView). answers ++ l) (sym answers_left) ∙ so

    pub no_answer : (answers' : List AnswerView) → None ≡ answer_at p step → answers' ≡ answers
        → answers' ++ answers_of p' (drop (i + 1) steps) ≡ all
    no_answer answers' given same =
        let rest = answers_of p' (drop (i + 1) steps) in
        ap (λ (l : List AnswerView). l ++ rest) same
        ∙ ap (λ (o : Option AnswerView). answers ++ with_answer o rest) given
        ∙ ap (λ (l : List AnswerView). answers ++ l) (sym answers_left) ∙ so
