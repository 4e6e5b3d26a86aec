use Rattle.mr_world.proofs.ReadyLemmas.{run_secured}
use Rattle.mr_world.proofs.laws.runs_keep_secured.Goals as goal

pub returns : goal.returns
returns c = λ old new events tracked faithful secured run.
    run_secured c.steps_keep_tracked.ensures c.steps_keep_faithful.ensures c.steps_keep_secured.ensures old events new tracked faithful secured run
