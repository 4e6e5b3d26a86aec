use Rattle.mr_world.proofs.HeadlineLemmas.{premises_meant, premises_told}
use Rattle.mr_world.proofs.PremiseLemmas.{ClockLaws, first_within, run_premises}
use Rattle.mr_world.proofs.laws.runs_decide_premises.Goals as goal

pub returns : goal.returns
returns c = λ setup first last events begins run.
    let laws : ClockLaws = record { within = c.spread_is_least.ensures; lowering = c.lowering_is_told.ensures; spread = c.spread_is_told.ensures } in
    let at_first = c.setups_tell_premises.ensures setup first begins in
    let after = run_premises laws first events last (first_within c.spread_is_least.ensures setup first begins) run in
    (premises_meant setup first last events begins at_first after, premises_told setup first last events begins at_first after)
