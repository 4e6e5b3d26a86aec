use Rattle.std.proofs.Common.{◌∙◌, Option, Result, Ok, sym, ap, subst}
use Rattle.mr_join.specs.declared.leg_reply.LegReply.{LegReply}
use Rattle.mr_proxy.specs.Pending.{PendingView}
use Rattle.mr_proxy.specs.contracts.proxy_core.ProxyCore.{the_view}
use Rattle.mr_proxy.specs.Transitions.{taken_of}
use Rattle.mr_proxy.specs.Sound.{IsSound, IsSoundAnswer}
use Rattle.mr_proxy.specs.declared.taken.Taken.TheVariants.{Answered}
use Rattle.mr_proxy.specs.steps.Outstanding.{list_settled}
use Rattle.mr_proxy.proofs.SoundLemmas.{last_reply_answers_lem}
use Rattle.mr_proxy.proofs.TakeLemmas.{with_list, taken_list, taken_sound, taken_as, became, last_answers}
use Rattle.mr_proxy.proofs.proxy_core.ProxyCore.take_reply.Goals as goal
use Rattle.mr_proxy.proofs.proxy_core.ProxyCore.take_reply.Goals.{in-Err, in-Ok-None, in-Ok-Some}

abbrev ok_of : Option PendingView → Result (Option PendingView) LegReply
ok_of pending = Ok pending

pub of-requires : goal.of-requires
of-requires c =
    (last_answers (the_view c.self.inside) c.args.id c.args.reply c.in-Ok-Some.pending c.self.invariant
    (sym (c.in-Ok-Some.is ∙ ap ok_of c.in-Ok-Some.field-0-is) ∙ c.take.ensures.settled)).whole

pub invariant_of-self : goal.invariant_of-self
invariant_of-self c =
    let p = the_view c.self.inside in
    subst IsSound
    (sym (with_list p c.take.new.self.proxy c.take.new.self.incarnation c.take.new.self.list (list_settled p.outstanding c.args.id c.args.reply)
    c.take.ensures.proxy c.take.ensures.incarnation c.take.ensures.list))
    (taken_sound p c.args.id c.args.reply c.self.invariant)

pub returns-clause-taken : goal.returns-clause-taken
returns-clause-taken c =
    let is = became (the_view c.self.inside) c.args.id c.args.reply c.take.result c.take.ensures.settled in
    elim c.match-take.branch [
      | in-Err w ↦ rw (← c.self.view_is) (w.result-is ∙ ap taken_as (sym w.in-Err.is) ∙ is)
      | in-Ok-None w ↦ rw (← c.self.view_is) (w.result-is ∙ ap taken_as (sym (w.in-Ok-None.is ∙ ap ok_of w.in-Ok-None.field-0-is)) ∙ is)
      | in-Ok-Some w ↦ rw (← c.self.view_is) (w.result-is ∙ ap Answered w.of.ensures ∙ ap taken_as (sym (w.in-Ok-Some.is ∙ ap ok_of w.in-Ok-Some.field-0-is)) ∙ is)
    ]

pub returns-clause-state : goal.returns-clause-state
returns-clause-state c =
    let p = the_view c.self.inside in
    let list =
    with_list p c.take.new.self.proxy c.take.new.self.incarnation c.take.new.self.list (list_settled p.outstanding c.args.id c.args.reply)
    c.take.ensures.proxy c.take.ensures.incarnation c.take.ensures.list in
    rw (← c.self.view_is) (list ∙ taken_list p c.args.id c.args.reply)

pub returns-clause-sound : goal.returns-clause-sound
returns-clause-sound c =
    λ answer is.
    let now_is = ap (λ v. taken_of v c.args.id c.args.reply) c.self.view_is in
    let sound =
    last_reply_answers_lem (the_view c.self.inside) c.args.id c.args.reply answer c.self.invariant (now_is ∙ sym (returns-clause-taken c) ∙ is) in
    subst (λ v. IsSoundAnswer v answer) c.self.view_is sound
