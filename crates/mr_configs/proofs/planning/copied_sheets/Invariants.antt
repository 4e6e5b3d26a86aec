use Rattle.std.proofs.Common.{◌≡◌, take}
use Rattle.mr_configs.proofs.planning.copied_sheets.Given as goal

-- the copied sheets are the first ones
abbrev pub invariant-loop-sheet : goal.invariant-loop-sheet
invariant-loop-sheet l = l.copied.items ≡ take l.sheet-index l.sheets.items
