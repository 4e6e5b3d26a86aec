-- A clock that reads the machine's time.
use Rattle.std.specs.Prelude.{◌≡◌, ℕ, ◌+◌, ◌<◌, ◌^◌, Option, Some, None}

-- One call, by how often the clock had failed before and has failed after: a reading within the range of the machine's
-- time, or one failure more. No more is known of what the machine shows.
abbrev pub ReadsMachine : ℕ → Option ℕ → ℕ → Type 0
ReadsMachine failures (Some seconds) failures' = (seconds < 2 ^ 63) × (failures' ≡ failures)
ReadsMachine failures None failures' = failures' ≡ failures + 1
