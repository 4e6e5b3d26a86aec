use Rattle.std.proofs.Common.{◌≡◌, ◌++◌, take, drop}
use Rattle.mr_counting.specs.Sums.{sums_of}
use Rattle.mr_sightings.proofs.tally.add_each.Given as goal

-- the counts so far are sums, and those behind them are as they were
abbrev pub invariant-loop-place : goal.invariant-loop-place
invariant-loop-place l = l.counts ≡ take l.place (sums_of l.initial.counts l.more) ++ drop l.place l.initial.counts
