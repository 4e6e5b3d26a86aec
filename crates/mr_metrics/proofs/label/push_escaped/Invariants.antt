use Rattle.std.proofs.Common.{◌≡◌, ◌++◌, drop}
use Rattle.mr_metrics.specs.Exposition.{escaped}
use Rattle.mr_metrics.proofs.label.push_escaped.Given as goal

abbrev pub invariant-loop-byte : goal.invariant-loop-byte
invariant-loop-byte l = l.text.items ++ escaped (drop l.byte-index l.byte-items) ≡ l.initial.text.items ++ escaped l.byte-items
