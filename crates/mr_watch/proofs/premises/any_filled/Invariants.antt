use Rattle.std.proofs.Common.{◌≡◌}
use Rattle.mr_watch.specs.Premises.{was_filled, any_below}
use Rattle.mr_watch.proofs.premises.any_filled.Given as goal

-- whether it is so for a number that was looked at
abbrev pub invariant-loop-hop : goal.invariant-loop-hop
invariant-loop-hop l = l.filled ≡ any_below (was_filled l.schedule l.proxies l.nodes) l.hop
