use Rattle.mr_clock.proofs.ClockLemmas.{spread_is_least_lem}
use Rattle.mr_clock.proofs.laws.spread_is_least.Goals as goal

pub returns : goal.returns
returns c = spread_is_least_lem
