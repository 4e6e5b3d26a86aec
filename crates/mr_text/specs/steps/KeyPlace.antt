-- Where the bytes of a key stand.
use Rattle.std.specs.Prelude.{ℕ, ◌≤◌, List, take}
use Rattle.mr_text.specs.declared.key.KeyPlace.{KeyPlace}
use Rattle.mr_text.specs.declared.key.KeyPlace.TheVariants.{Within, Apart}

-- the bytes, in either place
abbrev pub key_at : KeyPlace → List ℕ
key_at (Within room count) = take count room
key_at (Apart bytes) = bytes.items

-- a key that stands in itself has no more bytes than a short one
abbrev pub IsFilled : KeyPlace → Type 0
IsFilled (Within room count) = count ≤ 40
IsFilled (Apart bytes) = Unit {0}
