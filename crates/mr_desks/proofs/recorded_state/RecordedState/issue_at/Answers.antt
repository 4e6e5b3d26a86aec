use Rattle.std.proofs.Common.{rules, vec_capacity}
use Rattle.mr_desks.proofs.KeptLemmas.{keeps_issue}
use Rattle.mr_desks.proofs.recorded_state.RecordedState.issue_at.Goals as goal

pub invariant_of-self-2 : goal.invariant_of-self-2
invariant_of-self-2 g c =
    keeps_issue g.C.Carrier.gave c.self.inside.core c.issue_copy.new.core c.self.inside.book.items c.push_reserved.new.self.items c.self.inside.issues
    c.self.inside.limit (vec_capacity c.self.inside.book) (vec_capacity c.push_reserved.new.self) c.args.reading c.args.request.now c.self.invariant
    (search rules) (search rules) (search rules) (search rules) (search rules) (search rules)
