use Rattle.mr_proxy.proofs.SheetLemmas.{pools_by_reading_lem}
use Rattle.mr_proxy.proofs.laws.pools_by_reading.Goals as goal

pub returns : goal.returns
returns c = pools_by_reading_lem
