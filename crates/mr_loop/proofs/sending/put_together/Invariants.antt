use Rattle.std.proofs.Common.{◌≡◌, [], reverse, vec_len}
use Rattle.mr_loop.specs.Links.{travelling}
use Rattle.mr_loop.proofs.sending.put_together.Given as goal

-- with those that are left all are put together
abbrev pub invariant-loop-leg : goal.invariant-loop-leg
invariant-loop-leg l = travelling l.asker [] l.fn.legs.items ≡ travelling l.asker l.sents.items (reverse l.legs.items)

abbrev pub decreases-loop-leg : goal.decreases-loop-leg
decreases-loop-leg l = vec_len l.legs
