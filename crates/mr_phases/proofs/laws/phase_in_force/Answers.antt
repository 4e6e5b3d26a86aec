use Rattle.mr_phases.proofs.InForceLemmas.{phase_in_force_lem}
use Rattle.mr_phases.proofs.laws.phase_in_force.Goals as goal

pub returns : goal.returns
returns c = phase_in_force_lem
