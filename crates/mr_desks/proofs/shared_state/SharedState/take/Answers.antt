use Rattle.std.proofs.Common.{rules}
use Rattle.mr_desks.proofs.HeldLemmas.{held_take}
use Rattle.mr_desks.proofs.shared_state.SharedState.take.Goals as goal

pub invariant_of-self : goal.invariant_of-self
invariant_of-self g c =
    held_take g.C.Carrier.gave c.self.inside.core c.take_reply.new.self c.self.inside.issues c.args.carried.now.back c.back.result.now.sheet.id
    c.take_reply-reply.result c.self.invariant (search rules) (search rules) (search rules) c.take_reply-reply.ensures.reply c.take_reply.ensures.state
