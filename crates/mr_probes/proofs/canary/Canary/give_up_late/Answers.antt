use Rattle.std.proofs.Common.{◌∙◌, length, refl}
use Rattle.std.specs.List.{range_with_len}
use Rattle.mr_probes.specs.CanaryView.{CanaryView, GivesUpThrough}
use Rattle.mr_probes.proofs.RoundLemmas.{seen}
use Rattle.mr_probes.proofs.canary.Canary.give_up_late.Goals as goal

pub returns : goal.returns
returns c =
    rw (← c.self.view_is)
    (seen (λ (old new : CanaryView). GivesUpThrough c.args.now (range_with_len 0 (length old.clients)) old new) c.self.inside.clients c.deref_mut.result.now c.give_up_late.new.clients
    c.self.inside.notebook c.give_up_late.new.notebook c.self.inside.course c.self.inside.course c.deref_mut.ensures.value (c.give_up_late.auto.clients ∙ c.deref_mut.ensures.len)
    (c.give_up_late.ensures c.self.inside.course refl))
