use Rattle.std.proofs.Common.{◌≤◌, length}
use Rattle.mr_history.specs.steps.Tests.{is_stored, NonePasses}
use Rattle.mr_history.proofs.search.last_stored.Given as goal

-- none from here on
abbrev pub invariant-loop-place : goal.invariant-loop-place
invariant-loop-place l = record {
  within : l.place ≤ length l.entries;
  none : NonePasses (is_stored l.item) l.entries l.place;
}

abbrev pub decreases-loop-place : goal.decreases-loop-place
decreases-loop-place l = l.place
