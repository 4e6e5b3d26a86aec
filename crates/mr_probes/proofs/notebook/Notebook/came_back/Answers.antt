use Rattle.mr_probes.proofs.notebook.Notebook.came_back.Goals as goal

pub returns-clause-none : goal.returns-clause-none
returns-clause-none c = rw (← c.self.view_is) c.self.invariant.told
