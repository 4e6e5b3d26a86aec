-- Where a byte is, and how a line ends.
use Rattle.std.specs.Prelude.{ℕ, ◌+◌, ◌-◌, ◌==◌, List, [], ◌∷◌, length, take, Option, Some, None, option_map, slice_index, if◌then◌else◌}

-- the place of the first such byte
abbrev pub byte_place : ℕ → List ℕ → Option ℕ
byte_place wanted [] = None
byte_place wanted (byte ∷ bytes) = if byte == wanted then Some 0 else option_map (λ place. place + 1) (byte_place wanted bytes)

-- the bytes without the one carriage return at their end, if there is one
-- (from: protocol.txt, "Commands"; the bare line feed own)
abbrev pub without_carriage_return : List ℕ → List ℕ
without_carriage_return bytes = if slice_index bytes (length bytes - 1) == 13 then take (length bytes - 1) bytes else bytes
