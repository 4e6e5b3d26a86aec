use Rattle.std.proofs.Common.{◌≡◌, ◌∙◌, ap, remove, Some}
use Rattle.mr_proxy.specs.Transitions.{place_of_op, pending_with}
use Rattle.mr_proxy.proofs.SettleLemmas.{has_last}
use Rattle.mr_proxy.proofs.outstanding.Outstanding.take.Goals as goal

pub returns-then-branch-clause-settled : goal.returns-then-branch-clause-settled
returns-then-branch-clause-settled c =
    let was = c.in_ok-note.was in
    let is_last = c.if-branch.true in
    let noted = c.note.ensures.noted in
    let last = has_last c.args.self.now.list c.args.id c.args.reply cc in
    let taken : c.remove.result ≡ Some last.noted =
    c.remove.ensures.value ∙ ap (λ l. pending_with l c.args.id.op) c.note.ensures.list ∙ last.found in
    rw taken last.settled

pub returns-then-branch-clause-list : goal.returns-then-branch-clause-list
returns-then-branch-clause-list c =
    let was = c.in_ok-note.was in
    let is_last = c.if-branch.true in
    let noted = c.note.ensures.noted in
    let last = has_last c.args.self.now.list c.args.id c.args.reply cc in
    c.remove.ensures.list ∙ ap (λ l. remove l (place_of_op l c.args.id.op)) c.note.ensures.list ∙ last.left
