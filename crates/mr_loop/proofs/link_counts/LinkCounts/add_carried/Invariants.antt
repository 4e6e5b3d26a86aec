use Rattle.std.proofs.Common.{◌≡◌, drop}
use Rattle.mr_loop.specs.Counts.{each_counted, leg_carried, one_carried}
use Rattle.mr_loop.proofs.link_counts.LinkCounts.add_carried.Given as goal

-- with those that are left all are counted
abbrev pub invariant-loop-other : goal.invariant-loop-other
invariant-loop-other l = leg_carried l.fn.now l.fn.sent l.fn.self ≡ each_counted (one_carried l.time) (drop l._other-index l._other-items) l.self
