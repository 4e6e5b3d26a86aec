use Rattle.std.proofs.Common.{◌≡◌}
use Rattle.mr_watch.specs.PremiseLines.{upcoming}
use Rattle.mr_watch.proofs.premise_lines.upcoming_pool.Given as goal

-- of the hops so far
abbrev pub invariant-loop-hop : goal.invariant-loop-hop
invariant-loop-hop l = l.first ≡ upcoming l.schedule l.proxies l.hop
