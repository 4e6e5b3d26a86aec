use Rattle.std.proofs.Common.{◌≡◌, ◌++◌, drop}
use Rattle.mr_sightings.specs.Shown.{printable}
use Rattle.mr_sightings.proofs.shown.push_printable.Given as goal

abbrev pub invariant-loop-byte : goal.invariant-loop-byte
invariant-loop-byte l = l.text.items ++ printable (drop l.byte-index l.word) ≡ l.initial.text.items ++ printable l.word
