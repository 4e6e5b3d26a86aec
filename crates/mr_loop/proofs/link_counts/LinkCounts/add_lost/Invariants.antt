use Rattle.std.proofs.Common.{◌≡◌, drop}
use Rattle.mr_loop.specs.Counts.{each_counted, leg_lost, one_lost}
use Rattle.mr_loop.proofs.link_counts.LinkCounts.add_lost.Given as goal

-- with those that are left all are counted
abbrev pub invariant-loop-other : goal.invariant-loop-other
invariant-loop-other l = leg_lost l.fn.now l.fn.sent l.fn.self ≡ each_counted (one_lost l.time) (drop l._other-index l._other-items) l.self
