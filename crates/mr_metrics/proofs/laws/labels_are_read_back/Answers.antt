use Rattle.mr_metrics.proofs.LabelLemmas.{read_back}
use Rattle.mr_metrics.proofs.laws.labels_are_read_back.Goals as goal

pub returns : goal.returns
returns c = read_back
