use Rattle.mr_world.proofs.FactLemmas.{begin_faithful}
use Rattle.mr_world.proofs.laws.setups_begin_faithful.Goals as goal

pub returns : goal.returns
returns c = begin_faithful
