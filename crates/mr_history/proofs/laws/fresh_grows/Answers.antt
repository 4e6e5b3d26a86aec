use Rattle.mr_history.proofs.GrowthLemmas.{fresh_grows}
use Rattle.mr_history.proofs.laws.fresh_grows.Goals as goal

pub returns : goal.returns
returns c = fresh_grows
