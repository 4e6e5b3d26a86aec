use Rattle.std.proofs.Common.{◌≡◌, ◌∙◌, ℕ, refl, sym, subst, arith}
use Rattle.mr_probes.specs.CanaryView.{Begins}
use Rattle.mr_probes.specs.declared.wish.Wish.{Wish}
use Rattle.mr_probes.proofs.RoundLemmas.{idle_there}
use Rattle.mr_probes.proofs.round.ask.Goals as goal

pub returns-in-Ok-begin : goal.returns-in-Ok-begin
returns-in-Ok-begin c =
    let same : c.in-Ok.number ≡ c.args.place = omega (arith, c.in-Ok.ensures) in
    let notebook = c.args.notebook.now in
    let begun = c.in-Ok-begin.ensures.begun in
    let here = subst (λ (n : ℕ). Begins n c.args.now c.fitting.result notebook c.in-Ok-begin.waiting c.begin.new.notebook) same begun in
    record {
      wish = c.in-Some.wish;
      waiting = c.in-Ok-begin.waiting;
      was_idle = idle_there c.args.clients.now c.args.place c.index-clients-place.result c.if-place-clients.false (sym c.is_idle.ensures ∙ c.if-not-is_idle.false);
      was_due = sym c.is_due.ensures ∙ c.if-not-is_due.false;
      wished = c.in-Some.ensures;
      begun = subst (λ (w : Wish). Begins c.args.place c.args.now w notebook c.in-Ok-begin.waiting c.begin.new.notebook) c.fitting.ensures here;
      clients = refl;
      course = c.go_on.ensures;
    }
