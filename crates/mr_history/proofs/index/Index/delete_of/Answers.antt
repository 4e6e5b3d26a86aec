use Rattle.std.proofs.Common.{◌∙◌, sym, ap}
use Rattle.std.specs.Option.{option_copied}
use Rattle.mr_history.proofs.Lists.{got, not_got}
use Rattle.mr_history.proofs.IndexLemmas.{never_unknown, never_past, delete_here, no_delete_here}
use Rattle.mr_history.proofs.index.Index.delete_of.Goals as goal

pub returns-in_err-start : goal.returns-in_err-start
returns-in_err-start c =
    absurd (never_unknown _ _ c.args.self.now.issues _ c.requires.well_formed c.requires.indexed.issues c.requires.issued (sym c.get.ensures.value ∙ ap option_copied c.in_err-start.was))

pub returns-in_err-entry : goal.returns-in_err-entry
returns-in_err-entry c =
    absurd (never_past _ _ c.args.self.now.issues _ c.requires.well_formed c.requires.indexed.issues c.requires.issued _ (sym c.get.ensures.value ∙ ap option_copied c.in_ok-start.was)
    (not_got _ _ _ c.get-2.ensures.lookup c.in_err-entry.was))

pub returns-in_err-key : goal.returns-in_err-key
returns-in_err-key c =
    let there = got _ _ _ _ c.get-2.ensures.lookup c.in_ok-entry.was in
    rw c.from_residual-in_err-key.ensures
    (no_delete_here _ _ c.args.self.now.issues _ c.requires.well_formed c.requires.indexed.issues c.requires.issued _ (sym c.get.ensures.value ∙ ap option_copied c.in_ok-start.was) _ there
    (sym c.deleted_key.ensures ∙ ap option_copied c.in_err-key.was))

pub returns : goal.returns
returns c =
    let there = got _ _ _ _ c.get-2.ensures.lookup c.in_ok-entry.was in
    delete_here _ _ c.args.self.now.issues _ c.requires.well_formed c.requires.indexed.issues c.requires.issued _ (sym c.get.ensures.value ∙ ap option_copied c.in_ok-start.was) _ there _
    (sym c.deleted_key.ensures ∙ ap option_copied c.in_ok-key.was)
