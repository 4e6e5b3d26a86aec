use Rattle.mr_configs.proofs.MatchLemmas.{matches}
use Rattle.mr_configs.proofs.laws.configurations_match.Goals as goal

pub returns : goal.returns
returns c = matches
