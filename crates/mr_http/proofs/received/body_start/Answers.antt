use Rattle.std.proofs.Common.{IsTrue, false, Ok, ap, ◌∙◌, refl, rules}
use Rattle.mr_http.proofs.ReceivedLemmas.{body_of_head, head_of_body}
use Rattle.mr_http.proofs.received.body_start.Goals as goal

pub returns-then-all_agree-clause-body : goal.returns-then-all_agree-clause-body
returns-then-all_agree-clause-body c =
    let complete = rw c.in-Ok-Complete.field-0-is at c.in-Ok-Complete.ensures.complete in
    body_of_head c.args.response.now c.parse_response.new.headers c.in-Ok-Complete.head _ complete (search rules) (search rules) refl
    (c.if-all_agree.ensures.0 refl)

pub returns-else-all_agree-clause-none : goal.returns-else-all_agree-clause-none
returns-else-all_agree-clause-none c = λ body is.
    let found = c.in-Ok-Complete.is ∙ ap Ok c.in-Ok-Complete.field-0-is in
    let agree : IsTrue false = c.if-all_agree.ensures.1
    (head_of_body c.args.response.now c.parse_response.new.headers c.parse_response.result c.in-Ok-Complete.head _ body
    c.parse_response.ensures.found found refl is) in
    search (rules, agree)
