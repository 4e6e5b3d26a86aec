use Rattle.std.proofs.Common.{◌∙◌, ◌≤◌, ℕ, List, sym, subst}
use Rattle.mr_probes.specs.steps.Judging.{AreTold, Counts}
use Rattle.mr_probes.specs.declared.notebook.Found.{Found}
use Rattle.mr_probes.proofs.notebook.Notebook.take.Goals as goal

pub invariant_of-self : goal.invariant_of-self
invariant_of-self c =
    let i = c.self.invariant in
    let same = c.judged-convicted.ensures.same in
    record {
      room = same.room ∙ i.room;
      many = i.many ∙ sym same.keys;
      all = i.all ∙ sym same.keys;
      counted = λ key. i.counted key ∙ sym (same.sets key);
      kept = subst (λ (n : ℕ). 64 ≤ n) (sym c.keep.ensures.room) i.kept;
      told = subst (λ (n : ℕ). Counts n c.judged-convicted.new.judge.notes) (sym c.came_back_after-self-inside.ensures) (c.judged-convicted.ensures.counts c.self.inside.came_back i.told);
      tells = subst (λ (f : List Found). AreTold c.judged-convicted.new.judge.notes f) (sym c.keep.ensures.found) (c.judged-convicted.ensures.told c.self.inside.found.items i.tells);
    }
