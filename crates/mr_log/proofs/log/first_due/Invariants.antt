use Rattle.std.proofs.Common.{◌<◌, ℕ, slice_index_or}
use Rattle.mr_log.specs.Waiting.{IsDue}
use Rattle.mr_log.specs.declared.log.Said.{Said}
use Rattle.mr_log.proofs.log.first_due.Given as goal

-- no line so far may be said
abbrev pub invariant-loop-place : goal.invariant-loop-place
invariant-loop-place l = (k : ℕ) (d : Said) → k < l.place → ¬ IsDue l.said l.now (slice_index_or l.lines k d)
