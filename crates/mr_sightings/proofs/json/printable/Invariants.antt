use Rattle.std.proofs.Common.{◌≡◌, ◌++◌, drop}
use Rattle.std.specs.String.{string_bytes}
use Rattle.mr_sightings.specs.Shown.{printable}
use Rattle.mr_sightings.proofs.json.printable.Given as goal

abbrev pub invariant-loop-byte : goal.invariant-loop-byte
invariant-loop-byte l = string_bytes l.text ++ printable (drop l.byte-index l.bytes) ≡ printable l.bytes
