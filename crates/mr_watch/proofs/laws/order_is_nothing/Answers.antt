use Rattle.mr_watch.proofs.LawLemmas.{moved_least, moved_most}
use Rattle.mr_watch.proofs.laws.order_is_nothing.Goals as goal

pub returns-clause-least : goal.returns-clause-least
returns-clause-least c = moved_least

pub returns-clause-most : goal.returns-clause-most
returns-clause-most c = moved_most
