use Rattle.mr_history.proofs.GrowthLemmas.{safe_grows}
use Rattle.mr_history.proofs.laws.safe_grows.Goals as goal

pub returns : goal.returns
returns c = safe_grows
