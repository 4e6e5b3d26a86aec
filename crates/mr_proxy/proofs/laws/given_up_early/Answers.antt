use Rattle.mr_proxy.proofs.SoundLemmas.{given_up_early_lem}
use Rattle.mr_proxy.proofs.laws.given_up_early.Goals as goal

pub returns : goal.returns
returns c = given_up_early_lem
