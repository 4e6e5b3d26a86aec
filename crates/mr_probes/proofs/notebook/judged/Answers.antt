use Rattle.std.proofs.Common.{sym, subst}
use Rattle.mr_canary.specs.JudgeView.{JudgeView}
use Rattle.mr_probes.specs.steps.Judging.{AreTold, Counts}
use Rattle.mr_probes.proofs.NotebookLemmas.{counts_by_answer, told_by_answer}
use Rattle.mr_probes.proofs.notebook.judged.Goals as goal

pub returns-in-Ok-clause-counts : goal.returns-in-Ok-clause-counts
returns-in-Ok-clause-counts c =
    counts_by_answer c.args.judge.now c.answered.new.self c.args.asking.now.probe.number c.answer.result c.in-Ok.ensures.noted c.in-Ok.convicted c.in-Ok.ensures.judged c.answered.ensures.verdicts

pub returns-in-Err-clause-counts : goal.returns-in-Err-clause-counts
returns-in-Err-clause-counts c count counts = subst (λ (j : JudgeView). Counts count j.notes) (sym c.in-Err.ensures.noted.1) counts

pub returns-in-Ok-clause-told : goal.returns-in-Ok-clause-told
returns-in-Ok-clause-told c =
    told_by_answer c.args.judge.now c.answered.new.self c.args.asking.now.probe.number c.answer.result c.in-Ok.ensures.noted c.in-Ok.convicted c.in-Ok.ensures.judged c.args.said

pub returns-in-Err-clause-told : goal.returns-in-Err-clause-told
returns-in-Err-clause-told c found told = subst (λ (j : JudgeView). AreTold j.notes found) (sym c.in-Err.ensures.noted.1) told
