use Rattle.mr_pools.proofs.NameLemmas.{distinct_names_lem}
use Rattle.mr_pools.proofs.laws.names_are_distinct.Goals as goal

pub returns : goal.returns
returns c = distinct_names_lem
