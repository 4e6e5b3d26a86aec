use Rattle.mr_world.proofs.StartLemmas.{begin_tracked}
use Rattle.mr_world.proofs.laws.setups_begin_tracked.Goals as goal

pub returns : goal.returns
returns c = begin_tracked c.spread_is_least.ensures
