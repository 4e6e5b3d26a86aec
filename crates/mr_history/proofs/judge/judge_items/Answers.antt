use Rattle.std.proofs.Common.{◌≡◌, ◌∙◌, length, sym, subst, arith}
use Rattle.mr_history.specs.Judgement.{AreFreshUpTo}
use Rattle.mr_history.proofs.Lists.{at_read}
use Rattle.mr_history.proofs.JudgeLemmas.{fresh_without_get, issued_before, answer_within, one_more, all_fresh, shows_invented, shows_stale}
use Rattle.mr_history.proofs.judge.judge_items.Goals as goal

pub returns-in_default : goal.returns-in_default
returns-in_default c =
    fresh_without_get _ c.requires.well_formed _ _ _ c.requires.fresh c.requires.answered (sym c.issue_of_get.ensures ∙ c.in_default.is)

pub judge_item-requires-clause-issued : goal.judge_item-requires-clause-issued
judge_item-requires-clause-issued c =
    issued_before _ c.requires.well_formed _ _ _ c.requires.fresh c.requires.answered _ (sym c.issue_of_get.ensures ∙ c.in-Some.is)

pub judge_item-requires-clause-answered : goal.judge_item-requires-clause-answered
judge_item-requires-clause-answered c =
    answer_within _ c.requires.well_formed _ _ _ c.requires.fresh c.requires.answered _ (sym c.issue_of_get.ensures ∙ c.in-Some.is)

pub returns-in-Unstored : goal.returns-in-Unstored
returns-in-Unstored c =
    shows_invented _ c.requires.well_formed _ _ _ c.requires.fresh c.requires.answered _ (sym c.issue_of_get.ensures ∙ c.in-Some.is)
    _ _ c.loop-item.invariant (at_read _ _ _ c.loop-item-test.true c.item-item.is) c.in-Unstored.ensures

pub returns-in-Outdated : goal.returns-in-Outdated
returns-in-Outdated c =
    shows_stale _ c.requires.well_formed _ _ _ c.requires.fresh c.requires.answered _ (sym c.issue_of_get.ensures ∙ c.in-Some.is)
    _ _ _ c.loop-item.invariant (at_read _ _ _ c.loop-item-test.true c.item-item.is) c.in-Outdated.ensures

pub loop-item-preserved : goal.loop-item-preserved
loop-item-preserved c =
    one_more _ c.requires.well_formed _ _ _ c.requires.fresh c.requires.answered _ (sym c.issue_of_get.ensures ∙ c.in-Some.is)
    _ _ c.loop-item.invariant (at_read _ _ _ c.loop-item-test.true c.item-item.is) c.in-Fresh.ensures

pub returns : goal.returns
returns c =
    let all : c.loop-item.item-index ≡ length c.args.items.now = omega arith in
    all_fresh _ c.requires.well_formed _ _ _ c.requires.fresh c.requires.answered _ (sym c.issue_of_get.ensures ∙ c.in-Some.is)
    (subst (λ k. AreFreshUpTo c.args.entries.now c.args.items.now c.in-Some.issue c.args.answer k) all c.loop-item.invariant)
