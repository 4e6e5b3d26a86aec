use Rattle.std.proofs.Common.{◌≡◌, take}
use Rattle.mr_history.proofs.history.History.copy.Given as goal

-- the copied entries are the first ones
abbrev pub invariant-loop-entry : goal.invariant-loop-entry
invariant-loop-entry l = l.entries.items ≡ take l.entry-index l.entry-items
