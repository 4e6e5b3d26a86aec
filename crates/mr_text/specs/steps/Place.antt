-- Where the bytes of a block stand.
use Rattle.std.specs.Prelude.{ℕ, List}
use Rattle.mr_text.specs.declared.block.Place.{Place}
use Rattle.mr_text.specs.declared.block.Place.TheVariants.{Own, Shared}

-- the bytes, in either place
abbrev pub bytes_at : Place → List ℕ
bytes_at (Own bytes) = bytes.items
bytes_at (Shared bytes) = bytes
