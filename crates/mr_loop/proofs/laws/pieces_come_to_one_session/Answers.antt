use Rattle.mr_loop.proofs.SessionLemmas.{one_session}
use Rattle.mr_loop.proofs.laws.pieces_come_to_one_session.Goals as goal

pub returns : goal.returns
returns g c = λ most start sent heard end fresh run. one_session g.C.Cache.does most start fresh run
