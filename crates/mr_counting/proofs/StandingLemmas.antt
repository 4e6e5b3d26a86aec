-- The next bound, looked for hop by hop.
use Rattle.std.proofs.Common.{◌≡◌, ℕ, zero, suc, ◌+◌, ◌*◌, ◌<◌, List, [], ◌∷◌, ◌++◌, length, drop, nat_lt, Option, Some, None, is_some, true, false, ◌∙◌, ap, arith}
use Rattle.std.specs.List.{find}
use Rattle.std.specs.Option.{option_or}
use Rattle.std.proofs.lemmas.List.Folds.{find-append}
use Rattle.mr_phases.specs.Schedule.{Hop, start_at, interval_at}
use Rattle.mr_counting.specs.Telling.{bounds_of_hop, bounds_of, next_bound}

-- the bounds of the hop of this number
abbrev bounds_at : List Hop → ℕ → List ℕ
bounds_at hops j = start_at hops j ∷ (start_at hops j + interval_at hops j) ∷ (start_at hops j + 2 * interval_at hops j) ∷ []

from : (hops : List Hop) (j t : ℕ) → j < length hops
    → next_bound (drop j hops) t ≡ option_or (find (nat_lt t) (bounds_at hops j)) (next_bound (drop (suc j) hops) t)
from [] j t within = absurd (omega arith)
from (h ∷ hs) zero t within = find-append (nat_lt t) (bounds_of_hop h) (bounds_of hs)
from (h ∷ hs) (suc j) t within = from hs j t (omega arith)

-- in this hop, or in one behind it
pub next_from : (hops : List Hop) (j t : ℕ) → j < length hops
    → next_bound (drop j hops) t ≡ option_or (find (nat_lt t) (start_at hops j ∷ (start_at hops j + interval_at hops j) ∷ (start_at hops j + 2 * interval_at hops j) ∷ []))
    (next_bound (drop (j + 1) hops) t)
next_from hops j t within = let one_on : j + 1 ≡ suc j = omega arith in rw one_on (from hops j t within)
