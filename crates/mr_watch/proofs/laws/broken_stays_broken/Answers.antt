use Rattle.mr_watch.proofs.LawLemmas.{broken_stays}
use Rattle.mr_watch.proofs.laws.broken_stays_broken.Goals as goal

pub returns : goal.returns
returns c = broken_stays
