use Rattle.mr_proxy.proofs.SheetLemmas.{gets_ask_in_order_lem}
use Rattle.mr_proxy.proofs.laws.gets_ask_in_order.Goals as goal

pub returns : goal.returns
returns c = gets_ask_in_order_lem
