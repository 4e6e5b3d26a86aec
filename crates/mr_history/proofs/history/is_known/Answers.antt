use Rattle.mr_history.proofs.FormLemmas.{issued_told}
use Rattle.mr_history.proofs.history.is_known.Goals as goal

pub returns-in-By : goal.returns-in-By
returns-in-By c = rw c.in-By.is (issued_told _ _ _ c.was_issued.ensures)
