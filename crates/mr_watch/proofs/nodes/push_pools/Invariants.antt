use Rattle.std.proofs.Common.{◌≡◌, ◌++◌}
use Rattle.mr_watch.specs.Nodes.{pools_text}
use Rattle.mr_watch.proofs.nodes.push_pools.Given as goal

-- the pools so far
abbrev pub invariant-loop-pool : goal.invariant-loop-pool
invariant-loop-pool l = l.text.items ≡ l.initial.text.items ++ pools_text l.nodes l.pool
