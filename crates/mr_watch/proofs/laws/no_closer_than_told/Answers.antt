use Rattle.mr_watch.proofs.LawLemmas.{least_told}
use Rattle.mr_watch.proofs.laws.no_closer_than_told.Goals as goal

pub returns : goal.returns
returns c = least_told
