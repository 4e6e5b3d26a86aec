use Rattle.mr_watch.proofs.LawLemmas.{most_told}
use Rattle.mr_watch.proofs.laws.no_further_than_told.Goals as goal

pub returns : goal.returns
returns c = most_told
