use Rattle.std.proofs.Common.{◌≡◌}
use Rattle.std.specs.Str.{chars, IsUtf8}
use Rattle.std.specs.List.{list_all}
use Rattle.mr_shown.specs.Data.{is_byte}
use Rattle.mr_shown.proofs.characters.are_bytes.Given as goal

abbrev pub invariant-loop-point : goal.invariant-loop-point
invariant-loop-point l =
    IsUtf8 l.point-iterator.rest.now
    × (list_all is_byte (chars l.text) ≡ list_all is_byte (chars l.point-iterator.rest.now))
