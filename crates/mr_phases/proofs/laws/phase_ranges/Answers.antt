use Rattle.mr_phases.proofs.PhaseLemmas.{phase_ranges_lem}
use Rattle.mr_phases.proofs.laws.phase_ranges.Goals as goal

pub returns : goal.returns
returns c = phase_ranges_lem
