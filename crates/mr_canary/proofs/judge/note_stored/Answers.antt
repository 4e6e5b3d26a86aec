use Rattle.std.proofs.Common.{◌≢◌, arith}
use Rattle.mr_history.proofs.Lists.{at_read, at_within}
use Rattle.mr_canary.specs.declared.note.Answer.TheVariants.{Stored}
use Rattle.mr_canary.proofs.KeysLemmas.{set_quiet, stored_known}
use Rattle.mr_canary.proofs.judge.note_stored.Goals as goal

pub returns-then-set-keys-clause-known : goal.returns-then-set-keys-clause-known
returns-then-set-keys-clause-known c = λ notes number room ordered counted request known.
    let there = at_read c.args.keys.now c.args.set.key c.index-keys-set.result c.if-set-keys.true c.index-keys-set.is in
    rw (c.mark.ensures, ← c.index-keys-set.is, ← counted) (stored_known notes room c.args.keys.now number c.args.set c.args.value c.index-keys-set.result ordered request.0 request.1 there known)

pub returns-else-set-keys-clause-known : goal.returns-else-set-keys-clause-known
returns-else-set-keys-clause-known c = λ notes number room ordered counted request known key watched there.
    let apart : c.args.set.key ≢ key = λ same. (let within = at_within there in let past = c.if-set-keys.false in omega arith) in
    set_quiet notes room key watched number Stored c.args.set c.args.value request.0 request.1 (λ is. apart) (known key watched there)
