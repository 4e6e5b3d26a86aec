use Rattle.mr_canary.proofs.KeysLemmas.{delete_quiet}
use Rattle.mr_canary.proofs.judge.answer_delete.Goals as goal

pub returns-then-acknowledges-clause-known : goal.returns-then-acknowledges-clause-known
returns-then-acknowledges-clause-known c = λ place notes number room ordered counted request known.
    c.note_acknowledged.ensures.known c.args.answer place (c.acknowledges.ensures.0 c.if-acknowledges.true) notes number room ordered counted request known

pub returns-else-acknowledges-clause-known : goal.returns-else-acknowledges-clause-known
returns-else-acknowledges-clause-known c = λ place notes number room ordered counted request known key watched there.
    delete_quiet notes room key watched number c.args.answer c.args.delete request.0 request.1
    (λ acks same. (let yes = c.acknowledges.ensures.1 acks in let none = c.if-acknowledges.false in cc)) (known key watched there)
