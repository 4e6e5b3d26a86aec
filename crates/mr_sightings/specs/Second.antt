-- What is told of a second.
use Rattle.std.specs.Prelude.{ℕ, nat_eq, List, [], ◌∷◌, ◌++◌, fold, slice_index, Option, Some, None, if◌then◌else◌, codes, decimal}
use Rattle.mr_counting.specs.Counting.{sum_of}
use Rattle.mr_sightings.specs.Percentile.{percentile_of, time_said, slowest_of}
use Rattle.mr_sightings.specs.Shown.{millis_text, number_of, place_text}
use Rattle.mr_sightings.specs.Trouble.{trouble_text, all_troubles, place_of}
use Rattle.mr_sightings.specs.declared.second.Second.{Second}
use Rattle.mr_sightings.specs.declared.tally.Tally.{Tally}
use Rattle.mr_sightings.specs.declared.trouble.Trouble.{Trouble}

-- the bucket of the middle answer
abbrev pub median_of : Tally → Option ℕ
median_of tally = percentile_of 50 tally.times.counts

-- how long the slowest answer took, in milliseconds
abbrev pub slowest_said : Option ℕ → List ℕ
slowest_said None = codes "-"
slowest_said (Some micros) = millis_text micros ++ codes " ms"

-- how many requests there were, and what gets found
unfoldable pub gets_text : Tally → List ℕ
gets_text tally =
    number_of tally.requests (codes "request") (codes "requests")
    ++ (codes ", " ++ (number_of tally.hits (codes "hit") (codes "hits")
    ++ (codes ", " ++ number_of tally.misses (codes "miss") (codes "misses"))))

-- how long answers took
unfoldable pub times_text : Tally → List ℕ
times_text tally =
    codes ", median " ++ (time_said (median_of tally)
    ++ (codes ", greatest " ++ slowest_said (slowest_of tally.greatest (median_of tally))))

-- how many requests came to nothing
abbrev pub errors_of : List ℕ → ℕ
errors_of troubles = fold sum_of 0 troubles

-- a reason, and how often it was seen, behind what stands before it
abbrev pub error_text : List ℕ → ℕ → Trouble → List ℕ
error_text before count trouble = before ++ (decimal count ++ (codes " " ++ trouble_text trouble))

-- each of these reasons that was seen, with what stands before the first
abbrev pub each_error : List ℕ → List Trouble → List ℕ → List ℕ
each_error before [] troubles = []
each_error before (trouble ∷ more) troubles =
    if nat_eq (slice_index troubles (place_of trouble)) 0
    then each_error before more troubles
    else error_text before (slice_index troubles (place_of trouble)) trouble ++ each_error (codes ", ") more troubles

-- how many requests came to nothing, and why; nothing where none did
unfoldable pub errors_text : List ℕ → List ℕ
errors_text troubles =
    if nat_eq (errors_of troubles) 0
    then []
    else codes ", errors " ++ (decimal (errors_of troubles) ++ each_error (codes ": ") all_troubles troubles)

-- how often what was deleted came back
unfoldable pub back_text : ℕ → List ℕ
back_text count = codes ", came back " ++ decimal count

-- the same; nothing where it didn't
unfoldable pub came_back_part : ℕ → List ℕ
came_back_part count = if nat_eq count 0 then [] else back_text count

-- which second it is, and in which phase
unfoldable pub head_text : Second → List ℕ
head_text second = codes "second " ++ (decimal second.at ++ (codes " " ++ (place_text second.phase second.hop ++ codes ": ")))

-- the line of a second
unfoldable pub second_text : Second → List ℕ
second_text second =
    head_text second ++ (gets_text second.tally ++ (times_text second.tally
    ++ (errors_text second.tally.troubles ++ (came_back_part second.came_back ++ codes "\n"))))
