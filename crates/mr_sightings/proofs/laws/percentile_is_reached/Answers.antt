use Rattle.mr_sightings.proofs.PercentileLemmas.{percentile_reached, percentile_first}
use Rattle.mr_sightings.proofs.laws.percentile_is_reached.Goals as goal

pub returns : goal.returns
returns c = record { reached = percentile_reached; first = percentile_first }
