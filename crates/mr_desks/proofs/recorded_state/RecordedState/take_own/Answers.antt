use Rattle.std.proofs.Common.{rules, ap, ◌∙◌, vec_capacity, arith}
use Rattle.mr_proxy.specs.Transitions.{taken_of, after_take}
use Rattle.mr_proxy.specs.declared.taken.Taken.TheVariants.{Waiting, Answered}
use Rattle.mr_desks.proofs.KeptLemmas.{keeps_take, take_has_room, stranger_stays, last_answer_stands}
use Rattle.mr_desks.proofs.recorded_state.RecordedState.take_own.Goals as goal

pub invariant_of-self : goal.invariant_of-self
invariant_of-self g c =
    rw (c.in-Stranger.ensures.state, stranger_stays c.self.inside.core c.args.noted.sheet.id c.args.reply c.in-Stranger.reply c.in-Stranger.ensures.taken)
    c.self.invariant

pub push_reserved-requires : goal.push_reserved-requires
push_reserved-requires g c =
    let room = take_has_room g.C.Carrier.gave c.self.inside.core c.self.inside.book.items c.self.inside.issues c.self.inside.limit (vec_capacity c.self.inside.book)
    c.args.noted.sheet.id c.args.reply Waiting c.self.invariant c.in-Waiting.ensures.taken tt in omega arith

pub invariant_of-self-in-Waiting : goal.invariant_of-self-in-Waiting
invariant_of-self-in-Waiting g c =
    keeps_take g.C.Carrier.gave c.self.inside.core c.take_reply.new.self c.self.inside.book.items c.push_reserved.new.self.items c.self.inside.issues
    c.self.inside.limit (vec_capacity c.push_reserved.new.self) c.args.noted Waiting (search rules) c.requires.gave (search rules)
    (c.in-Waiting.ensures.taken ∙ ap (taken_of c.self.inside.core c.args.noted.sheet.id) c.requires.same) tt
    (c.in-Waiting.ensures.state ∙ ap (after_take c.self.inside.core c.args.noted.sheet.id) c.requires.same) (search rules)

pub push_reserved-requires-in-Answered : goal.push_reserved-requires-in-Answered
push_reserved-requires-in-Answered g c =
    let room = take_has_room g.C.Carrier.gave c.self.inside.core c.self.inside.book.items c.self.inside.issues c.self.inside.limit (vec_capacity c.self.inside.book)
    c.args.noted.sheet.id c.args.reply (Answered c.in-Answered.answer) c.self.invariant c.in-Answered.ensures.taken tt in omega arith

pub invariant_of-self-in-Answered : goal.invariant_of-self-in-Answered
invariant_of-self-in-Answered g c =
    keeps_take g.C.Carrier.gave c.self.inside.core c.take_reply.new.self c.self.inside.book.items c.push_reserved-in-Answered.new.self.items
    c.self.inside.issues c.self.inside.limit (vec_capacity c.push_reserved-in-Answered.new.self) c.args.noted (Answered c.in-Answered.answer)
    (search rules) c.requires.gave (search rules)
    (c.in-Answered.ensures.taken ∙ ap (taken_of c.self.inside.core c.args.noted.sheet.id) c.requires.same) tt
    (c.in-Answered.ensures.state ∙ ap (after_take c.self.inside.core c.args.noted.sheet.id) c.requires.same) (search rules)

pub returns-in-Stranger-clause-state : goal.returns-in-Stranger-clause-state
returns-in-Stranger-clause-state g c =
    let same = stranger_stays c.self.inside.core c.args.noted.sheet.id c.args.reply c.in-Stranger.reply c.in-Stranger.ensures.taken in
    rw (c.in-Stranger.ensures.state, same) (search rules)

pub returns-in-Answered-clause-stands : goal.returns-in-Answered-clause-stands
returns-in-Answered-clause-stands g c =
    last_answer_stands g.C.Carrier.gave c.self.inside.core c.args.noted c.in-Answered.answer
    (c.in-Answered.ensures.taken ∙ ap (taken_of c.self.inside.core c.args.noted.sheet.id) c.requires.same) (search rules) c.self.invariant.stands
    c.requires.gave
