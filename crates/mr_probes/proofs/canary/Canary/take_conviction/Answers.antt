use Rattle.mr_probes.proofs.canary.Canary.take_conviction.Goals as goal

pub returns-clause-told : goal.returns-clause-told
returns-clause-told c = rw (← c.self.view_is) c.take_found.ensures.told
