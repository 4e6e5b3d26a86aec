-- The name of a node is text.
use Rattle.std.proofs.Common.{◌≡◌, ℕ, ◌<◌, List, slice_index_or, arith, inl, inr, IsUtf8, length}
use Rattle.std.proofs.Math.ListN.{get_or-eq_default}
use Rattle.std.proofs.lemmas.Bool.{cases_lt}
use Rattle.std.proofs.lemmas.Str.{IsUtf8-from_ascii}
use Rattle.mr_pools.specs.NodeName.{IsNodeName, IsNameByte}

ascii_at : (bytes : List ℕ) → IsNodeName bytes → (i : ℕ) → slice_index_or bytes i 0 < 128
ascii_at bytes name i =
    elim (cases_lt i (length bytes)) [
      | inl inside ↦ let byte : IsNameByte (slice_index_or bytes i 0) = name.visible i 0 inside in omega (arith, byte.1)
      | inr past ↦ let none : slice_index_or bytes i 0 ≡ 0 = get_or-eq_default bytes 0 past in omega (arith, none)
    ]

pub utf8_from_name : (bytes : List ℕ) → IsNodeName bytes → IsUtf8 bytes
utf8_from_name bytes name = IsUtf8-from_ascii bytes (ascii_at bytes name)
