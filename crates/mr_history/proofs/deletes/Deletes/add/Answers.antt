use Rattle.std.proofs.Common.{arith}
use Rattle.mr_history.proofs.IndexLemmas.{bound_added}
use Rattle.mr_history.proofs.deletes.Deletes.add.Goals as goal

pub returns : goal.returns
returns c = bound_added _ _ _ _ c.in_ok-push.ensures.items (rw c.max-self.ensures (omega arith)) (rw c.max-self.ensures (omega arith))
