use Rattle.std.proofs.Common.{◌≡◌, drop, None}
use Rattle.mr_watch.specs.Walk.{walk}
use Rattle.mr_watch.proofs.spread.clocks_of.Given as goal

abbrev pub invariant-loop-proxy : goal.invariant-loop-proxy
invariant-loop-proxy l = walk l.seen (drop l.proxy-index l.proxies) ≡ walk None l.proxies
