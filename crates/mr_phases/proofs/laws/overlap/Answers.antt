use Rattle.mr_phases.proofs.PoolLemmas.{overlap_lem}
use Rattle.mr_phases.proofs.laws.overlap.Goals as goal

pub returns : goal.returns
returns c = overlap_lem
