use Rattle.mr_join.proofs.JoinLemmas.{items_are_hits_lem}
use Rattle.mr_join.proofs.laws.items_are_hits.Goals as goal

pub returns : goal.returns
returns c = items_are_hits_lem
