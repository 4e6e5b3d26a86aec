use Rattle.std.proofs.Common.{subst}
use Rattle.mr_history.specs.Places.{At}
use Rattle.mr_history.proofs.IndexLemmas.{known_beside, known_noted}
use Rattle.mr_history.proofs.index.note_issue.Goals as goal

pub returns-in_ok-insert : goal.returns-in_ok-insert
returns-in_ok-insert c history formed there known =
    known_noted history c.args.place c.args.issues.now c.insert.new.self _ _ _ formed (subst (λ e. At history c.args.place e) c.in-Issued.is there) known c.in_ok-insert.ensures.updates.0

pub returns-in_default : goal.returns-in_default
returns-in_default c history formed there known =
    known_beside history c.args.place c.args.issues.now _ there known (λ op proxy request same. c.in_default.not-Issued op proxy request same)
