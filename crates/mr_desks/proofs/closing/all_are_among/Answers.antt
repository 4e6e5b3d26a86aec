use Rattle.std.proofs.Common.{◌≡◌, ◌∙◌, true, false, List, All, sym, subst}
use Rattle.std.specs.Prelude.{Contains}
use Rattle.mr_proxy.specs.Answer.{AnswerView}
use Rattle.mr_desks.proofs.ClosingLemmas.{among_next, among_before}
use Rattle.mr_desks.proofs.closing.all_are_among.Goals as goal

pub returns-then-not-are_among : goal.returns-then-not-are_among
returns-then-not-are_among c = (
  λ claimed. let both : false ≡ true = claimed in (cc),
  λ among.
      let next = among_next c.args.others.now c.args.sessions.now c.loop-session.session-index c.session-item.result c.loop-session-test.true
      c.session-item.is (c.loop-session.invariant.0 among) in
      let here = subst (λ (l : List AnswerView). All (Contains c.args.others.now) l) (sym c.deref.ensures.value) next.0 in
      sym c.if-not-are_among.true ∙ c.are_among.ensures.1 here,
)

pub loop-session-preserved : goal.loop-session-preserved
loop-session-preserved c = (
  λ among.
      let next = among_next c.args.others.now c.args.sessions.now c.loop-session.session-index c.session-item.result c.loop-session-test.true
      c.session-item.is (c.loop-session.invariant.0 among) in next.1,
  λ after.
      let lent = c.are_among.ensures.0 c.if-not-are_among.false in
      let here = subst (λ (l : List AnswerView). All (Contains c.args.others.now) l) c.deref.ensures.value lent in
      c.loop-session.invariant.1
      (among_before c.args.others.now c.args.sessions.now c.loop-session.session-index c.session-item.result c.loop-session-test.true c.session-item.is
      here after),
)
