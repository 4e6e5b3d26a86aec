use Rattle.mr_watch.proofs.SpreadLemmas.{spread_walked}
use Rattle.mr_watch.proofs.spread.spread_of.Goals as goal

pub returns-in-Some : goal.returns-in-Some
returns-in-Some c = let seen = spread_walked c.args.proxies.now c.clocks_of.result c.clocks_of.ensures in rw c.in-Some.is at seen

pub returns-in-None : goal.returns-in-None
returns-in-None c = let seen = spread_walked c.args.proxies.now c.clocks_of.result c.clocks_of.ensures in rw c.in-None.is at seen
