use Rattle.mr_watch.proofs.SameLemmas.{same_told}
use Rattle.mr_watch.proofs.laws.same_is_the_watchers.Goals as goal

pub returns : goal.returns
returns c = same_told
