use Rattle.std.proofs.Common.{◌∙◌, sym, ap}
use Rattle.std.specs.Option.{option_copied}
use Rattle.mr_history.proofs.Lists.{got, not_got}
use Rattle.mr_history.proofs.IndexLemmas.{never_unknown, never_past, get_found, get_missed}
use Rattle.mr_history.proofs.index.Index.issue_of_get.Goals as goal

pub returns-in_err-issue : goal.returns-in_err-issue
returns-in_err-issue c =
    absurd (never_unknown _ _ c.args.self.now.issues _ c.requires.well_formed c.requires.indexed.issues c.requires.issued (sym c.get.ensures.value ∙ ap option_copied c.in_err-issue.was))

pub returns-in_err-get : goal.returns-in_err-get
returns-in_err-get c =
    absurd (never_past _ _ c.args.self.now.issues _ c.requires.well_formed c.requires.indexed.issues c.requires.issued _ (sym c.get.ensures.value ∙ ap option_copied c.in_ok-issue.was)
    (not_got _ _ _ c.get-2.ensures.lookup c.in_err-get.was))

pub returns-then-is_issued_get : goal.returns-then-is_issued_get
returns-then-is_issued_get c =
    get_found _ _ c.args.self.now.issues _ c.requires.well_formed c.requires.indexed.issues c.requires.issued _ (sym c.get.ensures.value ∙ ap option_copied c.in_ok-issue.was) _
    (got _ _ _ _ c.get-2.ensures.lookup c.in_ok-get.was) (sym c.is_issued_get.ensures ∙ c.if-is_issued_get.true)

pub returns-else-is_issued_get : goal.returns-else-is_issued_get
returns-else-is_issued_get c =
    get_missed _ _ c.args.self.now.issues _ c.requires.well_formed c.requires.indexed.issues c.requires.issued _ (sym c.get.ensures.value ∙ ap option_copied c.in_ok-issue.was) _
    (got _ _ _ _ c.get-2.ensures.lookup c.in_ok-get.was) (sym c.is_issued_get.ensures ∙ c.if-is_issued_get.false)
