use Rattle.mr_shown.proofs.DataLemmas.{read_back}
use Rattle.mr_shown.proofs.laws.shown_data_is_read_back.Goals as goal

pub returns : goal.returns
returns c = read_back
