use Rattle.mr_history.proofs.FormLemmas.{pushed}
use Rattle.mr_history.proofs.laws.fitting_entry_keeps_form.Goals as goal

pub returns : goal.returns
returns c = pushed
