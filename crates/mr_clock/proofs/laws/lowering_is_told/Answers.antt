use Rattle.mr_clock.proofs.ClockLemmas.{lowering_is_told_lem}
use Rattle.mr_clock.proofs.laws.lowering_is_told.Goals as goal

pub returns : goal.returns
returns c = lowering_is_told_lem
