use Rattle.mr_world.proofs.PremiseLemmas.{run_premises}
use Rattle.mr_world.proofs.laws.runs_tell_premises.Goals as goal

pub returns : goal.returns
returns c = λ old new events tracked run.
    run_premises (record { within = c.spread_is_least.ensures; lowering = c.lowering_is_told.ensures; spread = c.spread_is_told.ensures })
    old events new tracked.within run
