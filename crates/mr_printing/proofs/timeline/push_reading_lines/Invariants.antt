use Rattle.std.proofs.Common.{◌≡◌, ◌++◌, drop}
use Rattle.mr_printing.specs.TimelineText.{reading_lines}
use Rattle.mr_printing.proofs.timeline.push_reading_lines.Given as goal

abbrev pub invariant-loop-place : goal.invariant-loop-place
invariant-loop-place l =
    l.text.items ++ reading_lines l.hops l.place (drop l.place l.readings) (drop l.place l.standings)
    ≡ l.initial.text.items ++ reading_lines l.hops 0 l.readings l.standings
