use Rattle.mr_loop.specs.node.Serving.{seat}
use Rattle.mr_loop.proofs.AskLemmas.{left}
use Rattle.mr_loop.proofs.ServingLemmas.{UnderWay}
use Rattle.mr_loop.proofs.node.serving.serve_on.Given as goal

-- so much was served
abbrev pub invariant-input : goal.invariant-input
invariant-input g l = UnderWay g.C.Cache.does l.reading l.most_unread (seat l.fn.cache l.fn.client l.fn.counts) (seat l.cache l.client l.counts)

abbrev pub decreases-input : goal.decreases-input
decreases-input g l = left l.client.inbox
