use Rattle.std.proofs.Common.{◌≡◌, ◌∙◌, length, take, position, sym, ap, subst, arith}
use Rattle.mr_history.specs.History.{WasIssued}
use Rattle.mr_history.specs.Judgement.{AreFreshUpTo, FindsItem}
use Rattle.mr_history.specs.steps.Tests.{is_issued_get}
use Rattle.mr_history.proofs.Lists.{at_read}
use Rattle.mr_history.proofs.JudgeLemmas.{fresh_without_get, issued_before, answer_within, one_more, all_fresh, shows_invented, shows_stale}
use Rattle.mr_history.proofs.indexed.judge_items.Goals as goal

pub issue_of_get-requires-clause-issued : goal.issue_of_get-requires-clause-issued
issue_of_get-requires-clause-issued c =
    let was = (c.requires.well_formed.fits _ _ c.requires.answered).0 in
    subst (λ h. WasIssued (take c.args.index.now.read h) c.args.get) (sym c.requires.indexed.entries)
    (subst (λ n. WasIssued (take n c.args.entries.now) c.args.get) (sym c.requires.indexed.read) was)

pub returns-in_default : goal.returns-in_default
returns-in_default c =
    fresh_without_get _ c.requires.well_formed _ _ _ c.requires.fresh c.requires.answered
    (ap (λ h. position (is_issued_get c.args.get) h) (sym c.requires.indexed.entries) ∙ sym c.issue_of_get.ensures ∙ c.in_default.is)

pub judge_item-requires-clause-issued : goal.judge_item-requires-clause-issued
judge_item-requires-clause-issued c =
    issued_before _ c.requires.well_formed _ _ _ c.requires.fresh c.requires.answered _
    (ap (λ h. position (is_issued_get c.args.get) h) (sym c.requires.indexed.entries) ∙ sym c.issue_of_get.ensures ∙ c.in-Some.is)

pub judge_item-requires-clause-answered : goal.judge_item-requires-clause-answered
judge_item-requires-clause-answered c =
    answer_within _ c.requires.well_formed _ _ _ c.requires.fresh c.requires.answered _
    (ap (λ h. position (is_issued_get c.args.get) h) (sym c.requires.indexed.entries) ∙ sym c.issue_of_get.ensures ∙ c.in-Some.is)

pub returns-in-Unstored : goal.returns-in-Unstored
returns-in-Unstored c =
    shows_invented _ c.requires.well_formed _ _ _ c.requires.fresh c.requires.answered _
    (ap (λ h. position (is_issued_get c.args.get) h) (sym c.requires.indexed.entries) ∙ sym c.issue_of_get.ensures ∙ c.in-Some.is)
    _ _ c.loop-item.invariant (at_read _ _ _ c.loop-item-test.true c.item-item.is)
    (subst (FindsItem c.args.entries.now c.item-item.result c.in-Some.issue c.args.answer) c.in-Unstored.is c.in_ok-judge_item.ensures)

pub returns-in-Outdated : goal.returns-in-Outdated
returns-in-Outdated c =
    shows_stale _ c.requires.well_formed _ _ _ c.requires.fresh c.requires.answered _
    (ap (λ h. position (is_issued_get c.args.get) h) (sym c.requires.indexed.entries) ∙ sym c.issue_of_get.ensures ∙ c.in-Some.is)
    _ _ _ c.loop-item.invariant (at_read _ _ _ c.loop-item-test.true c.item-item.is)
    (subst (FindsItem c.args.entries.now c.item-item.result c.in-Some.issue c.args.answer) c.in-Outdated.is c.in_ok-judge_item.ensures)

pub loop-item-preserved : goal.loop-item-preserved
loop-item-preserved c =
    one_more _ c.requires.well_formed _ _ _ c.requires.fresh c.requires.answered _
    (ap (λ h. position (is_issued_get c.args.get) h) (sym c.requires.indexed.entries) ∙ sym c.issue_of_get.ensures ∙ c.in-Some.is)
    _ _ c.loop-item.invariant (at_read _ _ _ c.loop-item-test.true c.item-item.is)
    (subst (FindsItem c.args.entries.now c.item-item.result c.in-Some.issue c.args.answer) c.in-Fresh.is c.in_ok-judge_item.ensures)

pub returns : goal.returns
returns c =
    let all : c.loop-item.item-index ≡ length c.args.items.now = omega arith in
    all_fresh _ c.requires.well_formed _ _ _ c.requires.fresh c.requires.answered _
    (ap (λ h. position (is_issued_get c.args.get) h) (sym c.requires.indexed.entries) ∙ sym c.issue_of_get.ensures ∙ c.in-Some.is)
    (subst (λ k. AreFreshUpTo c.args.entries.now c.args.items.now c.in-Some.issue c.args.answer k) all c.loop-item.invariant)
