use Rattle.std.proofs.Common.{◌≡◌}
use Rattle.mr_watch.specs.Premises.{was_empty, any_below}
use Rattle.mr_watch.proofs.premises.any_empty.Given as goal

-- whether it is so for a number that was looked at
abbrev pub invariant-loop-hop : goal.invariant-loop-hop
invariant-loop-hop l = l.empty ≡ any_below (was_empty l.schedule l.proxies l.nodes) l.hop
