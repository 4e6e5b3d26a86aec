-- What private functions that read a port say of its digits. No clause of a public call cites these definitions.
use Rattle.std.specs.Prelude.{◌≡◌, ℕ, ◌<◌, ◌^◌, ◌⊎◌, List, length, slice_index, decimal}

-- a sign stands in front, or a zero that isn't all
abbrev pub BeginsOddly : List ℕ → Type 0
BeginsOddly digits = (slice_index digits 0 ≡ 43) ⊎ ((slice_index digits 0 ≡ 48) × (1 < length digits))

abbrev pub IsNoPort : List ℕ → Type 0
IsNoPort digits = (port : ℕ) → port < 2 ^ 16 → ¬ (digits ≡ decimal port)
