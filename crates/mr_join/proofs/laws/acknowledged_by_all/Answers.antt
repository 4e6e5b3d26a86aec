use Rattle.mr_join.proofs.JoinLemmas.{acknowledged_by_all_lem}
use Rattle.mr_join.proofs.laws.acknowledged_by_all.Goals as goal

pub returns : goal.returns
returns c = acknowledged_by_all_lem
