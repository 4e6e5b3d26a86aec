use Rattle.mr_proxy.proofs.SoundLemmas.{items_were_found_lem}
use Rattle.mr_proxy.proofs.laws.items_were_found.Goals as goal

pub returns : goal.returns
returns c = items_were_found_lem c.items_are_hits.ensures
