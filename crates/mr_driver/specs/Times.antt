-- How long things take, in microseconds.
use Rattle.std.specs.Prelude.{ℕ, ◌+◌, ◌-◌, ◌*◌, ◌/◌, ◌^◌, Bool, nat_lt, nat_le, nat_eq, if◌then◌else◌, min, max}

-- a bound of so many milliseconds, of which 0 is none
abbrev pub bound_of : ℕ → ℕ
bound_of millis = if nat_eq millis 0 then 2 ^ 64 - 1 else min (millis * 1000) (2 ^ 64 - 1)

-- twice the pause, but at least 50 milliseconds and at most 2 seconds; and 50 milliseconds after a link that stood for 2 seconds
abbrev pub pause_after : ℕ → ℕ → ℕ
pause_after pause stood =
    if nat_le 2000000 stood then 50000 else if nat_le 1000000 pause then 2000000 else max (pause * 2) 50000

-- an eighth of a bound, between 1 and 25 milliseconds
abbrev pub tick_of : ℕ → ℕ
tick_of bound = max 1000 (min (bound / 8) 25000)

-- an eighth of a bound, and a second at most
abbrev pub sweep_of : ℕ → ℕ
sweep_of bound = min (bound / 8) 1000000

-- the moment that is so much later
abbrev pub next_at : ℕ → ℕ → ℕ
next_at now span = min (now + span) (2 ^ 64 - 1)

-- more than the bound has passed
abbrev pub has_passed : ℕ → ℕ → ℕ → Bool
has_passed bound since now = nat_lt bound (now - since)

-- how many nanoseconds it is until a moment
abbrev pub nanos_until : ℕ → ℕ → ℕ
nanos_until now moment = (moment - now) * 1000
