use Rattle.std.proofs.Common.{◌≡◌, ◌++◌, drop}
use Rattle.mr_printing.specs.PlanText.{leg_lines}
use Rattle.mr_printing.proofs.plan.push_leg_lines.Given as goal

abbrev pub invariant-loop-sheet : goal.invariant-loop-sheet
invariant-loop-sheet l =
    l.text.items ++ leg_lines l.routing (drop l.sheet-index l.sheets) ≡ l.initial.text.items ++ leg_lines l.routing l.sheets
