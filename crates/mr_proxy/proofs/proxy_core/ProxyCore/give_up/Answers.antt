use Rattle.std.proofs.Common.{◌≡◌, ◌∙◌, sym, ap, subst, remove, Some}
use Rattle.mr_proxy.specs.contracts.proxy_core.ProxyCore.{the_view}
use Rattle.mr_proxy.specs.Transitions.{place_of_op, pending_with}
use Rattle.mr_proxy.specs.Sound.{IsSound}
use Rattle.mr_proxy.proofs.TakeLemmas.{with_list, given_up, given_up_none}
use Rattle.mr_proxy.proofs.proxy_core.ProxyCore.give_up.Goals as goal
use Rattle.mr_proxy.proofs.proxy_core.ProxyCore.give_up.Goals.{in-None, in-Some}

pub of-requires : goal.of-requires
of-requires c =
    let got : pending_with c.self.inside.outstanding.list c.args.op ≡ Some c.in-Some.pending = sym c.remove.ensures.value ∙ c.in-Some.is in
    (given_up (the_view c.self.inside) c.args.op c.in-Some.pending c.self.invariant got).answers.whole

pub invariant_of-self : goal.invariant_of-self
invariant_of-self c =
    let p = the_view c.self.inside in
    let left =
    with_list p c.remove.new.self.proxy c.remove.new.self.incarnation c.remove.new.self.list (remove p.outstanding (place_of_op p.outstanding c.args.op))
    c.remove.ensures.proxy c.remove.ensures.incarnation c.remove.ensures.list in
    elim c.match-remove.branch [
      | in-None w ↦
          let none = given_up_none p c.args.op (sym c.remove.ensures.value ∙ w.in-None.is) in
          subst IsSound (sym (left ∙ ap (λ list. record p { outstanding = list }) none.list)) c.self.invariant
      | in-Some w ↦
          let got : pending_with c.self.inside.outstanding.list c.args.op ≡ Some w.in-Some.pending = sym c.remove.ensures.value ∙ w.in-Some.is in
          let done = given_up p c.args.op w.in-Some.pending c.self.invariant got in
          subst IsSound (sym left) done.sound
    ]

pub returns-clause-sound : goal.returns-clause-sound
returns-clause-sound c =
    let p = the_view c.self.inside in
    elim c.match-remove.branch [
      | in-None w ↦ rw (w.result-is) tt
      | in-Some w ↦
          let got : pending_with c.self.inside.outstanding.list c.args.op ≡ Some w.in-Some.pending = sym c.remove.ensures.value ∙ w.in-Some.is in
          let done = given_up p c.args.op w.in-Some.pending c.self.invariant got in
          rw (w.result-is, w.of.ensures, ← c.self.view_is) done.answers
    ]

pub returns-clause-state : goal.returns-clause-state
returns-clause-state c =
    let p = the_view c.self.inside in
    let left =
    with_list p c.remove.new.self.proxy c.remove.new.self.incarnation c.remove.new.self.list (remove p.outstanding (place_of_op p.outstanding c.args.op))
    c.remove.ensures.proxy c.remove.ensures.incarnation c.remove.ensures.list in
    elim c.match-remove.branch [
      | in-None w ↦
          let none = given_up_none p c.args.op (sym c.remove.ensures.value ∙ w.in-None.is) in
          rw (← c.self.view_is) (left ∙ ap (λ list. record p { outstanding = list }) none.list ∙ sym none.state)
      | in-Some w ↦
          let got : pending_with c.self.inside.outstanding.list c.args.op ≡ Some w.in-Some.pending = sym c.remove.ensures.value ∙ w.in-Some.is in
          let done = given_up p c.args.op w.in-Some.pending c.self.invariant got in
          rw (← c.self.view_is) (left ∙ done.state)
    ]

pub returns-clause-unchanged : goal.returns-clause-unchanged
returns-clause-unchanged c =
    let p = the_view c.self.inside in
    let left =
    with_list p c.remove.new.self.proxy c.remove.new.self.incarnation c.remove.new.self.list (remove p.outstanding (place_of_op p.outstanding c.args.op))
    c.remove.ensures.proxy c.remove.ensures.incarnation c.remove.ensures.list in
    elim c.match-remove.branch [
      | in-None w ↦
          let none = given_up_none p c.args.op (sym c.remove.ensures.value ∙ w.in-None.is) in
          rw (w.result-is) (left ∙ ap (λ list. record p { outstanding = list }) none.list ∙ c.self.view_is)
      | in-Some w ↦ rw (w.result-is) tt
    ]
