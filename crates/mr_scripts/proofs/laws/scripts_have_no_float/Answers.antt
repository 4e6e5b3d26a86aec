use Rattle.mr_scripts.proofs.WholeLemmas.{read_whole}
use Rattle.mr_scripts.proofs.laws.scripts_have_no_float.Goals as goal

pub returns : goal.returns
returns c = read_whole
