use Rattle.mr_text.proofs.Leaving.{request_leaves_less}
use Rattle.mr_text.proofs.laws.requests_leave_less.Goals as goal

pub returns : goal.returns
returns c = request_leaves_less
