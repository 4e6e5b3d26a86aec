use Rattle.std.proofs.Common.{rules}
use Rattle.mr_desks.proofs.HeldLemmas.{held_issue}
use Rattle.mr_desks.proofs.shared_state.SharedState.issue_at.Goals as goal

pub invariant_of-self-2 : goal.invariant_of-self-2
invariant_of-self-2 g c =
    held_issue g.C.Carrier.gave c.self.inside.core c.issue_copy.new.core c.self.inside.issues c.args.reading c.args.request.now c.self.invariant (search rules)
