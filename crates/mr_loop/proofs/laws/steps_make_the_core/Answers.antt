use Rattle.mr_loop.proofs.RunLemmas.{core_after}
use Rattle.mr_loop.proofs.laws.steps_make_the_core.Goals as goal

pub returns : goal.returns
returns c = λ events f. core_after events f
