use Rattle.std.proofs.Common.{ℕ, List, length, subst, MatchOption}
use Rattle.mr_probes.specs.steps.Judging.{AreZero, IsFirstPositive}
use Rattle.mr_probes.proofs.NotebookLemmas.{first_by}
use Rattle.mr_probes.proofs.notebook.Notebook.first_set.Goals as goal

pub returns : goal.returns
returns c =
    let found = subst (λ (l : List ℕ). MatchOption c.first_positive.result (AreZero l c.args.from (length l)) (IsFirstPositive l c.args.from)) c.deref.ensures.value c.first_positive.ensures in
    rw (← c.self.view_is) (first_by c.self.inside c.self.invariant c.args.from c.first_positive.result found)
