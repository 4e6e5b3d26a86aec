use Rattle.std.proofs.Common.{◌≡◌, ◌++◌}
use Rattle.mr_configs.proofs.planning.sheets_of.Given as goal

abbrev pub invariant-loop-leg : goal.invariant-loop-leg
invariant-loop-leg l = l.sheets.items ++ l.leg-iterator.rest.items ≡ l.fn.legs.items
