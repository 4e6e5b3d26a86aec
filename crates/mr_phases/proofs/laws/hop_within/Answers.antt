use Rattle.mr_phases.proofs.WalkLemmas.{hop_within_lem}
use Rattle.mr_phases.proofs.laws.hop_within.Goals as goal

pub returns : goal.returns
returns c = hop_within_lem
