use Rattle.mr_proxy.proofs.OpenLemmas.{take_closes_one_lem}
use Rattle.mr_proxy.proofs.laws.take_closes_one.Goals as goal

pub returns : goal.returns
returns c = take_closes_one_lem
