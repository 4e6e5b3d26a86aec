use Rattle.mr_streams.proofs.Beginning.{setups_start}
use Rattle.mr_streams.proofs.laws.setups_start.Goals as goal

pub returns : goal.returns
returns c = λ setup limits most. setups_start setup limits most
