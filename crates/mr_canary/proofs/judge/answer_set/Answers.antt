use Rattle.mr_canary.proofs.KeysLemmas.{set_quiet}
use Rattle.mr_canary.proofs.judge.answer_set.Goals as goal

pub returns-in-Stored-clause-known : goal.returns-in-Stored-clause-known
returns-in-Stored-clause-known c = λ notes number room ordered counted request known. rw c.in-Stored.is (c.note_stored.ensures.known notes number room ordered counted request known)

pub returns-in_default-clause-known : goal.returns-in_default-clause-known
returns-in_default-clause-known c = λ notes number room ordered counted request known key watched there.
    set_quiet notes room key watched number c.args.answer c.args.set c.args.value request.0 request.1 (λ is. absurd (c.in_default.not-Stored is)) (known key watched there)
