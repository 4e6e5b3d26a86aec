use Rattle.mr_proxy.proofs.SheetLemmas.{delete_goes_lem}
use Rattle.mr_proxy.proofs.laws.delete_goes.Goals as goal

pub returns : goal.returns
returns c = delete_goes_lem
