use Rattle.std.proofs.Common.{◌∙◌, ◌↔◌, IsTrue, ap, subst}
use Rattle.mr_history.specs.History.{IsKnown}
use Rattle.std.specs.List.{list_any}
use Rattle.mr_history.proofs.FormLemmas.{issued_told, not_issued_told, not_answered_told}
use Rattle.mr_history.proofs.history.History.fits.Goals as goal

pub returns-then-op-proxy : goal.returns-then-op-proxy
returns-then-op-proxy c =
    let told = not_issued_told _ _ _ (c.was_issued.ensures ∙ ap (list_any _) c.entries-entries.ensures.entries) in
    rw c.in-Issued.is (λ h. (c.if-op-proxy.true, told.0 h), λ f. told.1 f.1)

pub returns-then-was_issued : goal.returns-then-was_issued
returns-then-was_issued c =
    let issued = issued_told _ _ _ (c.was_issued-in-Answered.ensures ∙ ap (list_any _) c.entries-entries.ensures.entries) in
    let told = not_answered_told _ _ _ (c.was_answered.ensures ∙ ap (list_any _) c.entries-entries.ensures.entries) in
    rw c.in-Answered.is (λ h. (issued.0 c.if-was_issued.true, told.0 h), λ f. told.1 f.1)

pub returns-else-was_issued : goal.returns-else-was_issued
returns-else-was_issued c =
    let issued = issued_told _ _ _ (c.was_issued-in-Answered.ensures ∙ ap (list_any _) c.entries-entries.ensures.entries) in
    rw c.in-Answered.is (λ h. (let no = c.if-was_issued.false in cc), λ f. issued.1 f.0)

pub returns-in-Stored : goal.returns-in-Stored
returns-in-Stored c =
    rw c.in-Stored.is (subst (λ entries. IsTrue c.is_known.result ↔ IsKnown entries c.in-Stored.by) c.entries-entries.ensures.entries c.is_known.ensures)

pub returns-in-Removed : goal.returns-in-Removed
returns-in-Removed c =
    rw c.in-Removed.is (issued_told _ _ _ (c.was_issued-in-Removed.ensures ∙ ap (list_any _) c.entries-entries.ensures.entries))
