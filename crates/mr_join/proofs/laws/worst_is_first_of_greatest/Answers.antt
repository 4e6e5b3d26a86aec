use Rattle.mr_join.proofs.JoinLemmas.{worst_is_first_of_greatest_lem}
use Rattle.mr_join.proofs.laws.worst_is_first_of_greatest.Goals as goal

pub returns : goal.returns
returns c = worst_is_first_of_greatest_lem
