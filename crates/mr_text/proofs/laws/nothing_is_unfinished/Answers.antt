use Rattle.mr_text.proofs.ShortRequests.{nothing_unfinished}
use Rattle.mr_text.proofs.laws.nothing_is_unfinished.Goals as goal

pub returns : goal.returns
returns c = nothing_unfinished
