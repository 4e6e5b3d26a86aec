-- Numbers that look drawn (from: the public-domain splitmix64), and what is asked by them.
use Rattle.std.specs.Prelude.{ℕ, false, ◌+◌, ◌*◌, ◌/◌, ◌%◌, ◌^◌, ◌==◌, bit_xor, if◌then◌else◌}
use Rattle.mr_probes.specs.declared.dice.Dice.{Dice}
use Rattle.mr_probes.specs.declared.wish.Kind.{Kind}
use Rattle.mr_probes.specs.declared.wish.Kind.TheVariants.{Get, Set, Delete}
use Rattle.mr_probes.specs.declared.wish.Wish.{Wish}

-- the state behind one draw
abbrev pub dice_after : Dice → Dice
dice_after dice = record { state = (dice.state + 0x9E3779B97F4A7C15) % 2 ^ 64 }

-- a number, mixed with what it is without so many of its last bits, and multiplied
abbrev pub mixed : ℕ → ℕ → ℕ → ℕ
mixed bits factor number = bit_xor number (number / 2 ^ bits) * factor % 2 ^ 64

-- the number that is drawn next
unfoldable pub rolled : Dice → ℕ
rolled dice =
    let state = (dice_after dice).state in
    let twice = mixed 27 0x94D049BB133111EB (mixed 30 0xBF58476D1CE4E5B9 state) in
    bit_xor twice (twice / 2 ^ 31)

-- by its first three bits: of eight, one set, one delete and six gets
abbrev pub kind_of : ℕ → Kind
kind_of roll = if roll / 2 ^ 61 == 0 then Set else if roll / 2 ^ 61 == 1 then Delete else Get

-- what is asked next, of so many keys
abbrev pub drawn : Dice → ℕ → Wish
drawn dice keys = record { key = rolled dice % keys; kind = kind_of (rolled dice); cleans = false }
