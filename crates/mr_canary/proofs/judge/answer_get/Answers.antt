use Rattle.mr_canary.proofs.RequestLemmas.{no_hit}
use Rattle.mr_canary.proofs.judge.answer_get.Goals as goal

pub returns-in-Hit : goal.returns-in-Hit
returns-in-Hit c = λ notes number room ordered request unanswered. rw c.in-Hit.is (c.judge_hit.ensures notes number room ordered request unanswered)

pub returns-in_default : goal.returns-in_default
returns-in_default c = λ notes number room ordered request unanswered. no_hit notes number c.args.answer unanswered (λ value same. c.in_default.not-Hit value same)
