use Rattle.mr_scripts.proofs.RefusalLemmas.{refused_has_no_fleet}
use Rattle.mr_scripts.proofs.laws.refused_setups_have_no_fleet.Goals as goal

pub returns : goal.returns
returns c = refused_has_no_fleet
