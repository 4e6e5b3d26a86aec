use Rattle.std.proofs.Common.{◌-◌, take, drop, length, subst, MatchOption}
use Rattle.mr_history.specs.steps.Tests.{NoConvict, FirstConvict}
use Rattle.mr_history.proofs.JudgeLemmas.{unstored, stored_last, fresh, fresh_behind, none_convicts, first_convicts}
use Rattle.mr_history.proofs.indexed.find_item.Goals as goal

pub returns-in_default : goal.returns-in_default
returns-in_default c = unstored _ _ _ c.in_default.ensures

pub returns-then-issue-stored : goal.returns-then-issue-stored
returns-then-issue-stored c = fresh_behind _ _ _ _ _ c.requires.well_formed (stored_last _ _ _ _ c.in-Some.ensures) c.if-issue-stored.true

pub returns-in-Some-2 : goal.returns-in-Some-2
returns-in-Some-2 c =
    let last = stored_last _ _ _ _ c.in-Some.ensures in
    let between = take (c.args.issue - c.in-Some.stored) (drop c.in-Some.stored c.args.entries.now) in (
      c.in-Some.stored,
      last,
      first_convicts _ _ _ _ _ c.requires.well_formed last _
          (subst (λ found. MatchOption found (NoConvict between c.args.item.now.key (length between)) (FirstConvict between c.args.item.now.key)) c.in-Some-2.is c.in_ok-delete.ensures),
    )

pub returns-in-None : goal.returns-in-None
returns-in-None c =
    let last = stored_last _ _ _ _ c.in-Some.ensures in
    let between = take (c.args.issue - c.in-Some.stored) (drop c.in-Some.stored c.args.entries.now) in
    fresh _ _ _ _ _ c.requires.well_formed last (none_convicts _ _ _ _ _ c.requires.well_formed last
    (subst (λ found. MatchOption found (NoConvict between c.args.item.now.key (length between)) (FirstConvict between c.args.item.now.key)) c.in-None.is c.in_ok-delete.ensures))
