use Rattle.std.proofs.Common.{◌≡◌, ◌&&◌, drop}
use Rattle.std.specs.List.{list_all}
use Rattle.mr_text.specs.Key.{key_byte_test}
use Rattle.mr_text.proofs.key.are_key_bytes.Given as goal

-- the bytes so far may, and with the rest this is so of all
abbrev pub invariant-loop-byte : goal.invariant-loop-byte
invariant-loop-byte l = list_all key_byte_test l.bytes ≡ (l.all && list_all key_byte_test (drop l.byte-index l.bytes))
