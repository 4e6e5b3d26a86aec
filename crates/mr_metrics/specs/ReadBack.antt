-- How the value of a label is read back, as a scraper does.
use Rattle.std.specs.Prelude.{ℕ, List, [], ◌∷◌, ◌==◌, Bool, true, false, if◌then◌else◌, Option, Some, None, option_map, option_and_then}

-- the byte that a byte behind a backslash stands for
abbrev pub behind_backslash : ℕ → Option ℕ
behind_backslash byte = if byte == 92 then Some 92 else if byte == 34 then Some 34 else if byte == 110 then Some 10 else None

-- a value with one byte more at its front
abbrev pub with_first : ℕ → List ℕ × List ℕ → List ℕ × List ℕ
with_first byte read = (byte ∷ read.0, read.1)

-- What stands up to the closing quote, and the bytes behind it. A line end ends the line before the value has ended.
-- (from: Prometheus's text exposition format 0.0.4)
abbrev pub read_value : Bool → List ℕ → Option (List ℕ × List ℕ)
read_value escaped [] = None
read_value true (byte ∷ bytes) = option_and_then (λ meant. option_map (with_first meant) (read_value false bytes)) (behind_backslash byte)
read_value false (byte ∷ bytes) =
    if byte == 34 then Some ([], bytes) else
    if byte == 10 then None else
    if byte == 92 then read_value true bytes else
    option_map (with_first byte) (read_value false bytes)
