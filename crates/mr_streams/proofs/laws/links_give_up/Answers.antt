use Rattle.mr_streams.proofs.Taking.{breaks_run}
use Rattle.mr_streams.proofs.laws.links_give_up.Goals as goal

pub returns : goal.returns
returns c = λ now link link' front front' w number there own breaks. breaks_run now link link' front front' w number there own breaks
