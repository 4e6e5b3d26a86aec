use Rattle.std.proofs.Common.{◌≡◌, ◌∙◌, ℕ, sym, subst}
use Rattle.mr_probes.specs.NotebookView.{NeverSetBetween}
use Rattle.mr_probes.proofs.RoundLemmas.{some_left}
use Rattle.mr_probes.proofs.StampLemmas.{inside}
use Rattle.mr_probes.proofs.round.is_done.Goals as goal

pub returns-else-is_none : goal.returns-else-is_none
returns-else-is_none c = (
  λ yes. absurd (let no = c.if-is_none.false in cc),
  λ over.
      let judge = c.args.notebook.now.judge in
      let same : over.from ≡ c.in-Some.from = inside over.from c.in-Some.from (sym over.cleans ∙ c.in-Some.is) in
      let none = subst (λ (from : ℕ). NeverSetBetween judge.notes from judge.keys) same over.all_asked in
      absurd (some_left judge c.in-Some.from c.first_set.result c.first_set.ensures c.if-is_none.ensures none),
)
