use Rattle.mr_world.proofs.PremiseLemmas.{first_premises}
use Rattle.mr_world.proofs.laws.setups_tell_premises.Goals as goal

pub returns : goal.returns
returns c = first_premises c.spread_is_least.ensures
