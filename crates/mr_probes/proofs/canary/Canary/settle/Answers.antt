use Rattle.std.proofs.Common.{◌∙◌}
use Rattle.mr_probes.specs.CanaryView.{CanaryView, Settles}
use Rattle.mr_probes.proofs.RoundLemmas.{seen}
use Rattle.mr_probes.proofs.canary.Canary.settle.Goals as goal

pub returns : goal.returns
returns c =
    rw (← c.self.view_is)
    (seen (λ (old new : CanaryView). Settles c.args.client c.args.now c.args.said c.args.next old new) c.self.inside.clients c.deref_mut.result.now c.settle.new.clients
    c.self.inside.notebook c.settle.new.notebook c.self.inside.course c.self.inside.course c.deref_mut.ensures.value (c.settle.auto.clients ∙ c.deref_mut.ensures.len)
    (c.settle.ensures c.self.inside.course))
