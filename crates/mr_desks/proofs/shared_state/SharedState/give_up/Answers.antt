use Rattle.mr_desks.proofs.HeldLemmas.{held_give_up}
use Rattle.mr_desks.proofs.KeptLemmas.{given_answer_stands}
use Rattle.mr_desks.proofs.shared_state.SharedState.give_up.Goals as goal

pub invariant_of-self : goal.invariant_of-self
invariant_of-self g c =
    rw c.give_up.ensures.state (held_give_up g.C.Carrier.gave c.self.inside.core c.self.inside.issues _ c.self.invariant)

pub invariant_of-self-2 : goal.invariant_of-self-2
invariant_of-self-2 g c =
    rw c.give_up.ensures.state (held_give_up g.C.Carrier.gave c.self.inside.core c.self.inside.issues _ c.self.invariant)

pub returns-clause-stands : goal.returns-clause-stands
returns-clause-stands g c =
    given_answer_stands g.C.Carrier.gave c.self.inside.core _ c.in_ok-give_up.field-0 c.in_ok-give_up.ensures.answer c.self.invariant.stands
