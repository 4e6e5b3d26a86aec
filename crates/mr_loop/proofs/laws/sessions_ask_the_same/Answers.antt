use Rattle.mr_loop.proofs.ReadingLemmas.{asks_the_same}
use Rattle.mr_loop.proofs.laws.sessions_ask_the_same.Goals as goal

pub returns : goal.returns
returns g c =
    asks_the_same c.requests_are_prefix_free.ensures c.no_request_is_refused.ensures c.requests_have_one_refusal.ensures c.nothing_is_unfinished.ensures g.C.Cache.does
