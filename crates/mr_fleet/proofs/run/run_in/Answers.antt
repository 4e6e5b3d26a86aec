use Rattle.std.proofs.Common.{◌∙◌}
use Rattle.mr_fleet.proofs.run.run_in.Goals as goal

pub returns-clause-openings : goal.returns-clause-openings
returns-clause-openings g c = c.close_all.ensures.openings ∙ c.take_apart-desks.ensures.desks

pub returns-clause-clients : goal.returns-clause-clients
returns-clause-clients g c = c.close_all.ensures.clients ∙ c.serve_fleet-endings.ensures.clients ∙ c.take_apart-desks.ensures.clients
