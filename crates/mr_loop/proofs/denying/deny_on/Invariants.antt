use Rattle.mr_loop.specs.NoReading.{DeniesAll, denying}
use Rattle.mr_loop.proofs.AskLemmas.{left}
use Rattle.mr_loop.proofs.denying.deny_on.Given as goal

-- so much was denied
abbrev pub invariant-input : goal.invariant-input
invariant-input l = DeniesAll l.limits l.client (denying l.fn.inbox l.fn.front l.fn.counts) (denying l.inbox l.front l.counts)

abbrev pub decreases-input : goal.decreases-input
decreases-input l = left l.inbox
