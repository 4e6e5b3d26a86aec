use Rattle.mr_loop.proofs.BegunLemmas.{begun_few}
use Rattle.mr_loop.proofs.laws.clients_begin_few.Goals as goal

pub returns : goal.returns
returns c = λ asker pause old new did few. begun_few asker pause old new did few
