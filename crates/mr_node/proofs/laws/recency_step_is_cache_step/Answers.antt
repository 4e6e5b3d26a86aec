use Rattle.mr_node.proofs.StepLemmas.{cache_step_of}
use Rattle.mr_node.proofs.laws.recency_step_is_cache_step.Goals as goal

pub returns : goal.returns
returns c = cache_step_of
