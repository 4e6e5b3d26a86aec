use Rattle.std.proofs.Common.{sym, ap, ◌∙◌}
use Rattle.mr_loop.specs.steps.Sending.{undone}
use Rattle.mr_loop.proofs.SentLemmas.{undone_more}
use Rattle.mr_loop.proofs.sending.take_all_back.Goals as goal

pub loop-mark-preserved : goal.loop-mark-preserved
loop-mark-preserved c =
    ap (λ l. undone c.pop.new.self.items l) c.take_back.ensures
    ∙ sym (undone_more c.pop.new.self.items c.in-Some.mark c.loop-mark.links)
    ∙ ap (λ m. undone m c.loop-mark.links) (sym c.in-Some.ensures.items)
    ∙ c.loop-mark.invariant
