use Rattle.mr_sockets.proofs.AddressLemmas.{one_address}
use Rattle.mr_sockets.proofs.laws.one_address.Goals as goal

pub returns : goal.returns
returns c = one_address
