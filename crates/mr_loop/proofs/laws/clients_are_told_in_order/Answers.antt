use Rattle.mr_loop.proofs.TellingLemmas.{told_in_order}
use Rattle.mr_loop.proofs.laws.clients_are_told_in_order.Goals as goal

pub returns : goal.returns
returns c = λ events f place client fresh there. told_in_order events f place client fresh there
