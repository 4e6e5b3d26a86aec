use Rattle.mr_history.proofs.JudgeLemmas.{unstored, stored_last, fresh, fresh_behind, none_convicts, first_convicts}
use Rattle.mr_history.proofs.judge.judge_item.Goals as goal

pub returns-in_default : goal.returns-in_default
returns-in_default c = unstored _ _ _ c.in_default.ensures

pub returns-then-issue-stored : goal.returns-then-issue-stored
returns-then-issue-stored c = fresh_behind _ _ _ _ _ c.requires.well_formed (stored_last _ _ _ _ c.in-Some.ensures) c.if-issue-stored.true

pub returns-in-Some-first_convict : goal.returns-in-Some-first_convict
returns-in-Some-first_convict c =
    let last = stored_last _ _ _ _ c.in-Some.ensures in
    (c.in-Some.stored, last, first_convicts _ _ _ _ _ c.requires.well_formed last _ c.in-Some-first_convict.ensures)

pub returns-in-None : goal.returns-in-None
returns-in-None c =
    let last = stored_last _ _ _ _ c.in-Some.ensures in
    fresh _ _ _ _ _ c.requires.well_formed last (none_convicts _ _ _ _ _ c.requires.well_formed last c.in-None.ensures)
