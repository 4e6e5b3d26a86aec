use Rattle.std.proofs.Common.{◌∙◌, ◌≤◌, ◌<◌, ℕ, List, length, sym, subst}
use Rattle.mr_probes.specs.steps.Judging.{AreTold}
use Rattle.mr_probes.specs.declared.notebook.Found.{Found}
use Rattle.mr_probes.proofs.NotebookLemmas.{first_told, some_found, told_behind}
use Rattle.mr_probes.proofs.notebook.Notebook.take_found.Goals as goal

pub invariant_of-self : goal.invariant_of-self
invariant_of-self c =
    let i = c.self.invariant in
    record {
      room = i.room;
      many = i.many;
      all = i.all;
      counted = i.counted;
      kept = subst (λ (n : ℕ). 64 ≤ n) (sym c.remove.ensures.capacity) i.kept;
      told = i.told;
      tells = subst (λ (f : List Found). AreTold c.self.inside.judge.notes f) (sym c.remove.ensures.items) (told_behind c.self.inside.judge.notes c.self.inside.found.items i.tells);
    }

pub returns-else-is_empty-clause-told : goal.returns-else-is_empty-clause-told
returns-else-is_empty-clause-told c =
    let ok = c.self.inside.found.ok.0 in
    let some : 0 < length c.self.inside.found.items = some_found c.self.inside.found (sym c.is_empty.ensures ∙ c.if-is_empty.false) in
    rw (← c.self.view_is) (first_told c.self.inside.judge.notes c.self.inside.found.items c.remove.result c.self.invariant.tells some c.remove.ensures.value)
