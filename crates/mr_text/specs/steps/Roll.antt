-- What bytes that only contracts see stand for.
use Rattle.std.specs.Prelude.{ℕ, List, [], ◌∷◌, ◌++◌}
use Rattle.mr_text.specs.declared.devices.counting.roll.Roll.{Roll, Empty, More'}

-- the bytes, in the order in which they went by
abbrev pub bytes_of : Roll → List ℕ
bytes_of Empty = []
bytes_of (More' marker before byte) = bytes_of before ++ byte.value ∷ []
