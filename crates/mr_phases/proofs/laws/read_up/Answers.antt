use Rattle.mr_phases.proofs.PoolLemmas.{read_up_lem}
use Rattle.mr_phases.proofs.laws.read_up.Goals as goal

pub returns : goal.returns
returns c = read_up_lem
