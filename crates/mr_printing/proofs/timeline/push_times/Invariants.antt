use Rattle.std.proofs.Common.{◌≡◌, ◌++◌, drop, length}
use Rattle.mr_printing.specs.TimelineText.{lines_from}
use Rattle.mr_printing.proofs.timeline.push_times.Given as goal

abbrev pub invariant-loop-number : goal.invariant-loop-number
invariant-loop-number l =
    l.text.items ++ lines_from (length l.times) l.number (drop l.number l.times)
    ≡ l.initial.text.items ++ lines_from (length l.times) 0 l.times
