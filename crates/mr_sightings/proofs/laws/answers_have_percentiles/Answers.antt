use Rattle.mr_sightings.proofs.PercentileLemmas.{percentile_none}
use Rattle.mr_sightings.proofs.laws.answers_have_percentiles.Goals as goal

pub returns : goal.returns
returns c = percentile_none
