-- Two facts of the clocks of a fleet, of its first readings and of the ticks that follow.
use Rattle.std.specs.Prelude.{◌≡◌, ℕ, ◌≤◌, List, [], ◌∷◌, slice_get, Some}
use Rattle.mr_clock.specs.Readings.{AreWithin, Tick, standing_after}

-- no tick gives a proxy a smaller reading than it has
abbrev pub NeverGoesBack : List ℕ → List Tick → Type 0
NeverGoesBack readings [] = Unit {0}
NeverGoesBack readings (tick ∷ ticks) =
    ((before : ℕ) → slice_get readings tick.proxy ≡ Some before → before ≤ tick.reading) × NeverGoesBack (standing_after readings tick) ticks

-- at first and after each tick no two readings differ by more than this
abbrev pub StayWithin : ℕ → List ℕ → List Tick → Type 0
StayWithin most readings [] = AreWithin most readings
StayWithin most readings (tick ∷ ticks) = AreWithin most readings × StayWithin most (standing_after readings tick) ticks
