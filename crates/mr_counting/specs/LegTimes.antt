-- How legs are counted by how long they took.
use Rattle.std.specs.Prelude.{◌≡◌, ℕ, ◌+◌, ◌-◌, ◌*◌, ◌/◌, List, [], ◌∷◌, codes, map, take, nat_eq, nat_le, refl, replicate, slice_index, slice_set, if◌then◌else◌}
use Rattle.mr_counting.specs.Counting.{one_more, sum_of}
use Rattle.mr_counting.specs.declared.leg_times.LegTimes.{LegTimes}
use Rattle.mr_metrics.specs.declared.times.Bucket.{Bucket}

-- the longest times that are told apart, in microseconds, rising
abbrev pub bounds : List ℕ
bounds =
    100 ∷ 250 ∷ 500 ∷ 1000 ∷ 2500 ∷ 5000 ∷ 10000 ∷ 25000 ∷ 50000 ∷ 100000 ∷ 250000 ∷ 500000 ∷ 1000000 ∷ 2500000 ∷ 5000000 ∷ []

-- the place of the first of these that a time is not longer than; behind the last where it is longer than all
abbrev pub place_in : List ℕ → ℕ → ℕ
place_in [] micros = 0
place_in (bound ∷ longer) micros = if nat_le micros bound then 0 else place_in longer micros + 1

-- no leg took any time
abbrev pub no_times : LegTimes
no_times = record { counts = replicate 16 0; micros = 0 }

-- the count at a place is one more
abbrev pub one_more_at : ℕ → List ℕ → List ℕ
one_more_at place counts = slice_set counts place (one_more (slice_index counts place))

-- a leg took so many microseconds
abbrev pub timed : ℕ → LegTimes → LegTimes
timed micros times = record { counts = one_more_at (place_in bounds micros) times.counts; micros = sum_of times.micros micros }

-- the same bounds as they are told, in seconds, and behind them the bound of what took longer than all
abbrev pub bound_texts : List (List ℕ)
bound_texts =
    codes "0.0001"
    ∷ codes "0.00025"
    ∷ codes "0.0005"
    ∷ codes "0.001"
    ∷ codes "0.0025"
    ∷ codes "0.005"
    ∷ codes "0.01"
    ∷ codes "0.025"
    ∷ codes "0.05"
    ∷ codes "0.1"
    ∷ codes "0.25"
    ∷ codes "0.5"
    ∷ codes "1"
    ∷ codes "2.5"
    ∷ codes "5"
    ∷ codes "+Inf"
    ∷ []

-- the microseconds that the digits behind a point say, of which the first counts so many
abbrev pub micros_behind : ℕ → List ℕ → ℕ
micros_behind unit [] = 0
micros_behind unit (digit ∷ digits) = (digit - 48) * unit + micros_behind (unit / 10) digits

-- the microseconds that a decimal number of seconds says, behind these whole seconds
abbrev pub micros_said : ℕ → List ℕ → ℕ
micros_said seconds [] = seconds * 1000000
micros_said seconds (c ∷ rest) =
    if nat_eq c 46 then seconds * 1000000 + micros_behind 100000 rest else micros_said (seconds * 10 + (c - 48)) rest

-- what is told are these bounds
pub told-bounds : map (micros_said 0) (take 15 bound_texts) ≡ bounds
told-bounds = refl

-- what a bucket tells: its bound, and how often
abbrev pub bucket_said : Bucket → List ℕ × ℕ
bucket_said bucket = (bucket.bound.now, bucket.count)

-- each of these bounds with its count, which stands at the same place among the counts, from this place on
abbrev pub bucket_rows : ℕ → List (List ℕ) → List ℕ → List (List ℕ × ℕ)
bucket_rows place [] counts = []
bucket_rows place (bound ∷ bounds) counts = (bound, slice_index counts place) ∷ bucket_rows (place + 1) bounds counts
