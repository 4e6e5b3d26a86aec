use Rattle.mr_history.proofs.GrowthLemmas.{safe_is_told}
use Rattle.mr_history.proofs.laws.safe_is_told.Goals as goal

pub returns : goal.returns
returns c = safe_is_told
