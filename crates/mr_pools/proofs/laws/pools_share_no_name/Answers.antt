use Rattle.mr_pools.proofs.NameLemmas.{share_no_name_lem}
use Rattle.mr_pools.proofs.laws.pools_share_no_name.Goals as goal

pub returns : goal.returns
returns c = share_no_name_lem
