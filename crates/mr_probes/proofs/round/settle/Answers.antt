use Rattle.mr_probes.proofs.RoundLemmas.{settles_none}
use Rattle.mr_probes.proofs.round.settle.Goals as goal

pub returns-else-place-clients : goal.returns-else-place-clients
returns-else-place-clients c course = settles_none c.args.place c.args.now c.args.said c.args.next c.args.clients.now c.args.notebook.now course c.if-place-clients.false
