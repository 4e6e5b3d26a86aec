use Rattle.mr_loop.specs.Asking.{DoesAll}
use Rattle.mr_loop.specs.steps.Asking.{asking}
use Rattle.mr_loop.proofs.AskLemmas.{left}
use Rattle.mr_loop.proofs.asking.ask_on.Given as goal

-- so much was done
abbrev pub invariant-input : goal.invariant-input
invariant-input l = DoesAll l.asker (asking l.fn.inbox l.fn.front l.fn.links l.fn.counts) (asking l.inbox l.front l.links l.counts)

abbrev pub decreases-input : goal.decreases-input
decreases-input l = left l.inbox
