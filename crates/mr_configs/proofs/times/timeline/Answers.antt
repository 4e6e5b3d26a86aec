use Rattle.mr_configs.proofs.TimelineLemmas.{tells}
use Rattle.mr_configs.proofs.times.timeline.Goals as goal

pub returns-clause-phases : goal.returns-clause-phases
returns-clause-phases c = rw c.schedule.ensures.schedule (tells c.phase_ranges.ensures c.args.config.now.schedule c.schedule.ensures.config.schedule)
