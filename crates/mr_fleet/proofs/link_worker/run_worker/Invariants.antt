use Rattle.std.proofs.Common.{◌≡◌}
use Rattle.mr_fleet.proofs.link_worker.run_worker.Given as goal

-- each job that was taken so far was carried
abbrev pub invariant-loop : goal.invariant-loop
invariant-loop g l = l.counts.carried ≡ l.counts.taken
