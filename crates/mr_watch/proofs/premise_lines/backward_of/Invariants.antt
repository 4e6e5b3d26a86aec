use Rattle.std.proofs.Common.{◌≡◌, ◌++◌, drop, filter}
use Rattle.mr_watch.specs.Premises.{went_back}
use Rattle.mr_watch.proofs.premise_lines.backward_of.Given as goal

abbrev pub invariant-loop-proxy : goal.invariant-loop-proxy
invariant-loop-proxy l = l.found.items ++ filter (went_back l.earlier) (drop l.proxy-index l.proxies) ≡ filter (went_back l.earlier) l.proxies
