use Rattle.mr_watch.proofs.NearLemmas.{far_broken}
use Rattle.mr_watch.proofs.laws.far_is_far.Goals as goal

pub returns : goal.returns
returns c = far_broken
