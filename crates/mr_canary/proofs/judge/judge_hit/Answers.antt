use Rattle.std.proofs.Common.{◌∙◌, Some, None, sym}
use Rattle.mr_canary.proofs.RequestLemmas.{hit_judged}
use Rattle.mr_canary.proofs.judge.judge_hit.Goals as goal

pub returns-in-Some : goal.returns-in-Some
returns-in-Some c = λ notes number room ordered request unanswered.
    hit_judged notes room number c.args.get c.args.watched.now c.args.value ordered unanswered request.0 request.1 request.2 (Some c.in-Some.delete)
    (sym c.in-Some.is ∙ c.convicting.ensures)

pub returns-in-None : goal.returns-in-None
returns-in-None c = λ notes number room ordered request unanswered.
    hit_judged notes room number c.args.get c.args.watched.now c.args.value ordered unanswered request.0 request.1 request.2 None
    (sym c.in-None.is ∙ c.convicting.ensures)
