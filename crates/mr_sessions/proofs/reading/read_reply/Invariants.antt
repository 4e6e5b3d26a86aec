use Rattle.mr_sessions.proofs.ReadLemmas.{Reading}
use Rattle.mr_sessions.proofs.reading.read_reply.Given as goal

abbrev pub invariant-reply : goal.invariant-reply
invariant-reply g l = Reading l.fn.turns l.initial.replies.kept (g.S.Source.told l.initial.reader) l.turns_left l.replies (g.S.Source.told l.reader)

abbrev pub decreases-reply : goal.decreases-reply
decreases-reply g l = l.turns_left
