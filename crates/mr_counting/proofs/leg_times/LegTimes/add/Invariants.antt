use Rattle.std.proofs.Common.{◌≡◌, ◌++◌, take, drop}
use Rattle.mr_counting.specs.Sums.{sums_of}
use Rattle.mr_counting.proofs.leg_times.LegTimes.add.Given as goal

-- the counts so far are sums, and those behind them are as they were
abbrev pub invariant-loop-place : goal.invariant-loop-place
invariant-loop-place l = record {
  summed : l.self.counts ≡ take l.place (sums_of l.initial.self.counts l.more.counts) ++ drop l.place l.initial.self.counts;
  micros : l.self.micros ≡ l.initial.self.micros;
}
