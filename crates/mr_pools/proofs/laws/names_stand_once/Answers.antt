use Rattle.mr_pools.proofs.NameLemmas.{stand_once_lem}
use Rattle.mr_pools.proofs.laws.names_stand_once.Goals as goal

pub returns : goal.returns
returns c = stand_once_lem
