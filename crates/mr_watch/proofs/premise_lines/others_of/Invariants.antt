use Rattle.std.proofs.Common.{◌≡◌, ◌++◌, drop, filter}
use Rattle.mr_watch.specs.Premises.{tells_other}
use Rattle.mr_watch.proofs.premise_lines.others_of.Given as goal

abbrev pub invariant-loop-proxy : goal.invariant-loop-proxy
invariant-loop-proxy l = l.found.items ++ filter (tells_other l.expected) (drop l.proxy-index l.proxies) ≡ filter (tells_other l.expected) l.proxies
