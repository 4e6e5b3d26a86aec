use Rattle.mr_world.proofs.ReadyLemmas.{run_facts}
use Rattle.mr_world.proofs.laws.runs_show_facts.Goals as goal

pub returns : goal.returns
returns c = λ old new events tracked faithful run. run_facts c.steps_keep_tracked.ensures c.steps_keep_faithful.ensures old events new tracked faithful run
