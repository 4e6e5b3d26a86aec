use Rattle.mr_loop.proofs.RunLemmas.{crosses}
use Rattle.mr_loop.proofs.laws.replies_are_of_their_legs.Goals as goal

pub returns : goal.returns
returns c = λ crossings events left h. crosses crossings events left h
