use Rattle.std.proofs.Common.{sym, subst}
use Rattle.mr_loop.specs.declared.inbox.Input.{Input}
use Rattle.mr_loop.specs.steps.Asking.{AnswersSo}
use Rattle.mr_loop.proofs.DoneLemmas.{refused_so}
use Rattle.mr_loop.proofs.asking.answer.Goals as goal

pub returns-in-Refused : goal.returns-in-Refused
returns-in-Refused c =
    let P : Input → Type 0 = λ i. AnswersSo c.args.asker c.args.front.now c.args.links.now i c.answer_refusal.result c.answer_refusal.new.front c.args.links.now in
    subst P (sym c.in-Refused.is)
    (refused_so c.args.asker c.in-Refused.refusal c.args.front.now c.answer_refusal.new.front c.args.links.now c.answer_refusal.result c.answer_refusal.ensures)
