use Rattle.std.proofs.Common.{◌∙◌, sym}
use Rattle.mr_history.proofs.Lists.{got}
use Rattle.mr_history.proofs.IndexLemmas.{passing_stored}
use Rattle.mr_history.proofs.index.Index.last_stored.Goals as goal

pub returns-then-is_stored : goal.returns-then-is_stored
returns-then-is_stored c =
    let there = got _ _ _ _ c.get-2.ensures.lookup c.in_ok-entry.was in
    (c.if-place-self.true, passing_stored _ _ _ _ there (sym c.is_stored.ensures ∙ c.if-is_stored.true))
