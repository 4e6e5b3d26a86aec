use Rattle.std.proofs.Common.{◌≡◌, drop}
use Rattle.mr_counting.specs.Telling.{next_bound}
use Rattle.mr_counting.proofs.standing.next_phase.Given as goal

-- each phase of the hops so far has begun
abbrev pub invariant-loop-hop : goal.invariant-loop-hop
invariant-loop-hop l = next_bound (drop l.hop l.schedule) l.now ≡ next_bound l.schedule l.now
