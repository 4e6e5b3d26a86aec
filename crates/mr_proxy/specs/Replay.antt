-- What steps make of a proxy, and the answers that they give.
use Rattle.std.specs.Prelude.{List, [], ◌∷◌, fold, Bool, true, false, Option, Some, None}
use Rattle.mr_proxy.specs.Answer.{AnswerView}
use Rattle.mr_proxy.specs.Issue.{after_issue}
use Rattle.mr_proxy.specs.ProxyView.{ProxyView}
use Rattle.mr_proxy.specs.Transitions.{taken_of, after_take, given_up_of, after_give_up}
use Rattle.mr_proxy.specs.declared.taken.Taken.{Taken}
use Rattle.mr_proxy.specs.declared.taken.Taken.TheVariants.{Waiting, Answered, Stranger}
use Rattle.mr_proxy.specs.declared.step.Step.{Step}
use Rattle.mr_proxy.specs.declared.step.Step.TheVariants.{Issue, Take, GiveUp}

-- the proxy after a step
abbrev pub after : ProxyView → Step → ProxyView
after p (Issue reading request) = after_issue p reading request
after p (Take back) = after_take p back.sheet.id back.reply
after p (GiveUp op) = after_give_up p op

-- the proxy after all steps, one after another
abbrev pub replay : ProxyView → List Step → ProxyView
replay p steps = fold after p steps

-- the step accepted a request
abbrev pub is_issue : Step → Bool
is_issue (Issue reading request) = true
is_issue (Take back) = false
is_issue (GiveUp op) = false

-- the answer that a taken reply completes, if it completes one
abbrev pub answered_in : Taken → Option AnswerView
answered_in Waiting = None
answered_in (Answered answer) = Some answer
answered_in (Stranger reply) = None

-- the answer that a step gives, if it gives one
abbrev pub answer_at : ProxyView → Step → Option AnswerView
answer_at p (Issue reading request) = None
answer_at p (Take back) = answered_in (taken_of p back.sheet.id back.reply)
answer_at p (GiveUp op) = given_up_of p op

-- the answers behind one more, where there is one
abbrev pub with_answer : Option AnswerView → List AnswerView → List AnswerView
with_answer None answers = answers
with_answer (Some answer) answers = answer ∷ answers

-- the answers that the steps give, in order
abbrev pub answers_of : ProxyView → List Step → List AnswerView
answers_of p [] = []
answers_of p (step ∷ steps) = with_answer (answer_at p step) (answers_of (after p step) steps)
