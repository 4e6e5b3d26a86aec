use Rattle.mr_proxy.proofs.OpenLemmas.{give_up_closes_lem}
use Rattle.mr_proxy.proofs.laws.give_up_closes.Goals as goal

pub returns : goal.returns
returns c = give_up_closes_lem
