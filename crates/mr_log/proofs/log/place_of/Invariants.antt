use Rattle.std.proofs.Common.{◌≢◌, ◌<◌, ℕ, slice_index_or}
use Rattle.mr_log.specs.Waiting.{kind_in}
use Rattle.mr_log.specs.declared.log.Said.{Said}
use Rattle.mr_log.proofs.log.place_of.Given as goal

-- no line so far is of the kind
abbrev pub invariant-loop-place : goal.invariant-loop-place
invariant-loop-place l = (k : ℕ) (d : Said) → k < l.place → kind_in (slice_index_or l.lines k d) ≢ l.kind
