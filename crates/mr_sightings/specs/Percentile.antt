-- How long answers took, by the bounds that are told apart.
use Rattle.std.specs.Prelude.{◌≡◌, ℕ, ◌+◌, ◌-◌, ◌*◌, ◌/◌, nat_eq, nat_lt, List, [], ◌∷◌, ◌++◌, map, take, sum, replicate, slice_get, slice_index, slice_index_or, Option, Some, None, if◌then◌else◌, codes, refl}
use Rattle.mr_counting.specs.LegTimes.{bounds, micros_behind}

-- each answer by the place of its bucket, the quickest first
abbrev pub each_place : ℕ → List ℕ → List ℕ
each_place place [] = []
each_place place (count ∷ counts) = replicate count place ++ each_place (place + 1) counts

-- the number, from 1 on, of the first of so many answers that so many percent of them come up to
abbrev pub rank_of : ℕ → ℕ → ℕ
rank_of percent answers = (answers * percent + 99) / 100

-- the place of the bucket in which that answer lies; none where there was no answer
unfoldable pub percentile_of : ℕ → List ℕ → Option ℕ
percentile_of percent counts = slice_get (each_place 0 counts) (rank_of percent (sum counts) - 1)

-- the longest time of each bucket as it is told, in milliseconds; nothing bounds the last
abbrev pub bound_texts : List (List ℕ)
bound_texts =
    codes "0.1"
    ∷ codes "0.25"
    ∷ codes "0.5"
    ∷ codes "1"
    ∷ codes "2.5"
    ∷ codes "5"
    ∷ codes "10"
    ∷ codes "25"
    ∷ codes "50"
    ∷ codes "100"
    ∷ codes "250"
    ∷ codes "500"
    ∷ codes "1000"
    ∷ codes "2500"
    ∷ codes "5000"
    ∷ codes "over 5000"
    ∷ []

-- the microseconds that a decimal number of milliseconds says, behind these whole ones
abbrev pub micros_said : ℕ → List ℕ → ℕ
micros_said millis [] = millis * 1000
micros_said millis (c ∷ rest) =
    if nat_eq c 46 then millis * 1000 + micros_behind 100 rest else micros_said (millis * 10 + (c - 48)) rest

-- what is told are the bounds by which answers are counted
pub told-bounds : map (micros_said 0) (take 15 bound_texts) ≡ bounds
told-bounds = refl

-- the longest time of a bucket, in milliseconds; a dash where there is no bucket
abbrev pub bound_said : Option ℕ → List ℕ
bound_said None = codes "-"
bound_said (Some place) = slice_index_or bound_texts place []

-- the same with its unit
abbrev pub time_said : Option ℕ → List ℕ
time_said None = codes "-"
time_said (Some place) = slice_index_or bound_texts place [] ++ codes " ms"

-- The longest time of a bucket, in microseconds. Of the one that nothing bounds it is the time of the slowest answer.
abbrev pub bound_micros : ℕ → Option ℕ → Option ℕ
bound_micros greatest None = None
bound_micros greatest (Some place) = Some (if nat_lt place 15 then slice_index bounds place else greatest)

-- how long the slowest answer took, where there was an answer
abbrev pub slowest_of : ℕ → Option ℕ → Option ℕ
slowest_of greatest None = None
slowest_of greatest (Some place) = Some greatest
