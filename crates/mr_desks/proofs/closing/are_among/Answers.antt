use Rattle.std.proofs.Common.{◌≡◌, true, false, rules}
use Rattle.std.specs.Prelude.{Contains}
use Rattle.mr_desks.proofs.ClosingLemmas.{one_more, not_all}
use Rattle.mr_desks.proofs.closing.are_among.Goals as goal

pub returns-then-not-contains : goal.returns-then-not-contains
returns-then-not-contains c = (
  λ claimed. let both : false ≡ true = claimed in (cc),
  λ all. absurd (not_all (Contains c.args.others.now) c.args.answers.now c.loop-answer.answer-index c.answer-item.result c.loop-answer-test.true
      c.answer-item.is (search rules) all),
)

pub loop-answer-preserved : goal.loop-answer-preserved
loop-answer-preserved c =
    one_more (Contains c.args.others.now) c.args.answers.now c.loop-answer.answer-index c.answer-item.result c.loop-answer-test.true c.answer-item.is
    (search rules) c.loop-answer.invariant
