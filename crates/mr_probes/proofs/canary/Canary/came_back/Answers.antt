use Rattle.mr_probes.proofs.canary.Canary.came_back.Goals as goal

pub returns-clause-none : goal.returns-clause-none
returns-clause-none c = rw (← c.self.view_is) c.came_back.ensures.none
