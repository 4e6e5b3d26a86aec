use Rattle.mr_text.proofs.ShortRequests.{unfinished_short}
use Rattle.mr_text.proofs.laws.unfinished_requests_are_short.Goals as goal

pub returns : goal.returns
returns c = unfinished_short
