-- The clocks' readings in a fleet, one for each proxy, and how far apart they stood.
use Rattle.std.specs.Prelude.{◌≡◌, ℕ, ◌+◌, ◌-◌, ◌<◌, ◌≤◌, ◌||◌, Bool, false, List, [], ◌∷◌, length, get_or, fold, max, min, nat_lt, slice_get, slice_set, Option, Some}

-- no two of the readings differ by more than this
abbrev pub AreWithin : ℕ → List ℕ → Type 0
AreWithin most readings = (p q x y : ℕ) → slice_get readings p ≡ Some x → slice_get readings q ≡ Some y → x ≤ y + most

-- the greatest difference between two of the readings
abbrev pub spread_of : List ℕ → ℕ
spread_of [] = 0
spread_of (first ∷ rest) = fold max first rest - fold min first rest

-- the readings of a fleet, one for each proxy
pub record ReadingsView : Type 0 where
  -- the readings that stand, by the numbers of the proxies
  pub standing : List ℕ
  -- the greatest difference between two readings that stood together so far
  pub spread : ℕ
  -- a reading was lowered
  pub went_back : Bool

-- a fleet's readings before its first tick
abbrev pub readings_at_first : List ℕ → ReadingsView
readings_at_first readings = record { standing = readings; spread = spread_of readings; went_back = false }

-- a clock shows another reading
pub record Tick : Type 0 where
  pub proxy : ℕ
  pub reading : ℕ

-- the readings once the proxy of a tick has its new one
abbrev pub standing_after : List ℕ → Tick → List ℕ
standing_after readings tick = slice_set readings tick.proxy tick.reading

-- the tick gives its proxy a smaller reading than it has
abbrev pub is_lower : List ℕ → Tick → Bool
is_lower readings tick = nat_lt tick.reading (get_or readings tick.proxy 0)

-- what a tick changes
abbrev pub readings_after : ReadingsView → Tick → ReadingsView
readings_after view tick = record {
  standing = standing_after view.standing tick;
  spread = max view.spread (spread_of (standing_after view.standing tick));
  went_back = view.went_back || is_lower view.standing tick;
}
