use Rattle.std.proofs.Common.{rules, sym, subst, vec_capacity, arith}
use Rattle.mr_proxy.specs.Sound.{IsSound}
use Rattle.mr_proxy.proofs.OpenLemmas.{give_up_closes_lem}
use Rattle.mr_desks.specs.Recorded.{Recorded}
use Rattle.mr_desks.proofs.KeptLemmas.{keeps_give_up, given_answer_stands}
use Rattle.mr_desks.proofs.recorded_state.RecordedState.give_up.Goals as goal

pub push_reserved-requires : goal.push_reserved-requires
push_reserved-requires g c =
    let sound = subst (λ (r : Recorded). IsSound r.core) (sym c.self.view_is) c.keeps.ensures.sound in
    let closes = give_up_closes_lem c.self.inside.core _ c.in_ok-answer.answer sound c.in_ok-answer.ensures.answer in
    let room = c.self.invariant.room in
    omega arith

pub invariant_of-self-2 : goal.invariant_of-self-2
invariant_of-self-2 g c =
    keeps_give_up g.C.Carrier.gave c.self.inside.core c.give_up.new.self c.self.inside.book.items c.push_reserved.new.self.items c.self.inside.issues
    c.self.inside.limit (vec_capacity c.push_reserved.new.self) _ c.in_ok-answer.answer (search rules)
    (subst (λ (r : Recorded). IsSound r.core) (sym c.self.view_is) c.keeps.ensures.sound) c.in_ok-answer.ensures.answer (search rules) (search rules)

pub returns-clause-stands : goal.returns-clause-stands
returns-clause-stands g c =
    given_answer_stands g.C.Carrier.gave c.self.inside.core _ c.in_ok-answer.answer c.in_ok-answer.ensures.answer c.self.invariant.stands
