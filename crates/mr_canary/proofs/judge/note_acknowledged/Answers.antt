use Rattle.std.proofs.Common.{◌≢◌, arith}
use Rattle.mr_history.proofs.Lists.{at_read, at_within}
use Rattle.mr_canary.proofs.KeysLemmas.{acknowledged_known, delete_quiet}
use Rattle.mr_canary.proofs.judge.note_acknowledged.Goals as goal

pub returns-then-delete-keys-clause-known : goal.returns-then-delete-keys-clause-known
returns-then-delete-keys-clause-known c = λ answer place acks notes number room ordered counted request known.
    let there = at_read c.args.keys.now c.args.delete.key c.index-keys-delete.result c.if-delete-keys.true c.index-keys-delete.is in
    rw (c.acknowledge.ensures, ← c.index-keys-delete.is)
    (acknowledged_known notes room c.args.keys.now number answer c.args.delete c.index-keys-delete.result ordered acks request.0 request.1 there known)

pub returns-else-delete-keys-clause-known : goal.returns-else-delete-keys-clause-known
returns-else-delete-keys-clause-known c = λ answer place acks notes number room ordered counted request known key watched there.
    let apart : c.args.delete.key ≢ key = λ same. (let within = at_within there in let past = c.if-delete-keys.false in omega arith) in
    delete_quiet notes room key watched number answer c.args.delete request.0 request.1 (λ acks. apart) (known key watched there)
