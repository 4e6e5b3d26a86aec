use Rattle.mr_phases.proofs.PoolLemmas.{deletes_stay_lem}
use Rattle.mr_phases.proofs.laws.deletes_stay_before_start.Goals as goal

pub returns : goal.returns
returns c = deletes_stay_lem
