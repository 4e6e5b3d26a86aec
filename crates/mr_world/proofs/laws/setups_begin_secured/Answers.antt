use Rattle.mr_world.proofs.HeadlineLemmas.{begin_secured}
use Rattle.mr_world.proofs.laws.setups_begin_secured.Goals as goal

pub returns : goal.returns
returns c = λ setup world begins plans. begin_secured c.recency_step_is_cache_step.ensures setup world begins plans
