use Rattle.std.proofs.Common.{◌≡◌, ◌++◌, drop}
use Rattle.mr_drawing.specs.Escape.{shown}
use Rattle.mr_drawing.proofs.escape.push_shown.Given as goal

abbrev pub invariant-loop-byte : goal.invariant-loop-byte
invariant-loop-byte l = l.text.items ++ shown (drop l.byte-index l.bytes) ≡ l.initial.text.items ++ shown l.bytes
