use Rattle.mr_phases.proofs.PoolLemmas.{deletes_up_lem}
use Rattle.mr_phases.proofs.laws.deletes_up.Goals as goal

pub returns : goal.returns
returns c = deletes_up_lem
