use Rattle.mr_phases.proofs.PoolLemmas.{reads_stay_lem}
use Rattle.mr_phases.proofs.laws.reads_stay_before_middle.Goals as goal

pub returns : goal.returns
returns c = reads_stay_lem
