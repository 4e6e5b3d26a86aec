use Rattle.std.proofs.Common.{sym, subst}
use Rattle.mr_history.specs.History.{Fits}
use Rattle.mr_history.specs.HistoryView.{HistoryView}
use Rattle.mr_history.proofs.FormLemmas.{pushed}
use Rattle.mr_history.proofs.history.History.push.Goals as goal

pub invariant_of-self : goal.invariant_of-self
invariant_of-self c =
    let fits = subst (λ (view : HistoryView). Fits view.entries c.args.entry) (sym c.self.view_is) c.requires.fits in
    rw c.push_reserved.ensures.items (pushed _ _ c.self.invariant fits)
