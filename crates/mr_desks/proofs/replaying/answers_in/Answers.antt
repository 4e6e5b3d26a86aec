use Rattle.std.proofs.Common.{◌∙◌, ap, sym}
use Rattle.std.specs.Prelude.{option_map}
use Rattle.mr_desks.proofs.ReplayLemmas.{steps_left, one_answer, no_answer}
use Rattle.mr_desks.proofs.replaying.answers_in.Goals as goal
use Rattle.mr_desks.proofs.replaying.answers_in.Goals.{in-Some+in_ok-push, in_default}

pub loop-step-preserved : goal.loop-step-preserved
loop-step-preserved c = (
  steps_left _ _ c.args.steps.now c.loop-step.step-index c.step-item.result c.loop-step-test.true c.step-item.is c.in_ok-answer.ensures.core c.loop-step.invariant.0,
  elim c.match-branch-3.branch [
    | in-Some+in_ok-push w ↦ one_answer _ _ c.args.steps.now c.loop-step.step-index c.step-item.result c.loop-step-test.true c.step-item.is c.in_ok-answer.ensures.core
        c.loop-step.answers.items _ c.loop-step.invariant.1 _ _ (ap (option_map (λ a. a)) (sym w.in-Some.is) ∙ c.in_ok-answer.ensures.answer)
        (ap (λ l. l.items) w.answers-is ∙ w.in_ok-push.ensures.items)
    | in_default w ↦ no_answer _ _ c.args.steps.now c.loop-step.step-index c.step-item.result c.loop-step-test.true c.step-item.is c.in_ok-answer.ensures.core
        c.loop-step.answers.items _ c.loop-step.invariant.1 _ (ap (option_map (λ a. a)) (sym w.in_default.is) ∙ c.in_ok-answer.ensures.answer)
        (ap (λ l. l.items) w.answers-is)
  ],
)
