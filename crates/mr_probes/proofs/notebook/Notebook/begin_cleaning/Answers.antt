use Rattle.std.proofs.Common.{◌≡◌, ◌∙◌, ℕ, List, ap, count_by, nat_lt}
use Rattle.mr_probes.specs.NotebookView.{keys_set}
use Rattle.mr_probes.specs.steps.Notebook.{notebook_of}
use Rattle.mr_probes.proofs.NotebookLemmas.{sets_listed}
use Rattle.mr_probes.proofs.notebook.Notebook.begin_cleaning.Goals as goal

pub returns : goal.returns
returns c =
    let is : c.set_count-self-inside.result ≡ keys_set c.self.inside.judge =
    c.set_count-self-inside.ensures ∙ ap (λ (l : List ℕ). count_by (nat_lt 0) l) (c.deref.ensures.value ∙ sets_listed c.self.inside c.self.invariant) in
    rw (← c.self.view_is) (ap (λ (left : ℕ). record (notebook_of c.self.inside) { left = left }) is)
