use Rattle.mr_watch.proofs.NearLemmas.{near_holds}
use Rattle.mr_watch.proofs.laws.near_is_near.Goals as goal

pub returns : goal.returns
returns c = near_holds
