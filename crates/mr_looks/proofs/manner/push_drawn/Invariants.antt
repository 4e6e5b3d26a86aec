use Rattle.std.proofs.Common.{◌≡◌, ◌++◌, drop}
use Rattle.mr_looks.specs.WatchText.{drawn}
use Rattle.mr_looks.proofs.manner.push_drawn.Given as goal

abbrev pub invariant-loop-byte : goal.invariant-loop-byte
invariant-loop-byte l = l.text.items ++ drawn (drop l.byte-index l.bytes) ≡ l.initial.text.items ++ drawn l.bytes
