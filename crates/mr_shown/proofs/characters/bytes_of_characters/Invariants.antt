use Rattle.std.proofs.Common.{◌≡◌, ◌++◌, true}
use Rattle.std.specs.Str.{chars, IsUtf8}
use Rattle.std.specs.List.{list_all}
use Rattle.mr_shown.specs.Data.{is_byte}
use Rattle.mr_shown.proofs.characters.bytes_of_characters.Given as goal

abbrev pub invariant-loop-point : goal.invariant-loop-point
invariant-loop-point l =
    IsUtf8 l.point-iterator.rest.now
    × (list_all is_byte (chars l.point-iterator.rest.now) ≡ true)
    × (l.bytes.items ++ chars l.point-iterator.rest.now ≡ chars l.text)
