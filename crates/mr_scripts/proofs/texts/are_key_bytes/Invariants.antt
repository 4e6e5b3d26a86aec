use Rattle.std.proofs.Common.{◌≡◌}
use Rattle.std.specs.Str.{chars, IsUtf8}
use Rattle.std.specs.List.{list_all}
use Rattle.mr_text.specs.Key.{key_byte_test}
use Rattle.mr_scripts.proofs.texts.are_key_bytes.Given as goal

abbrev pub invariant-loop-point : goal.invariant-loop-point
invariant-loop-point l =
    IsUtf8 l.point-iterator.rest.now
    × (list_all key_byte_test (chars l.text) ≡ list_all key_byte_test (chars l.point-iterator.rest.now))
