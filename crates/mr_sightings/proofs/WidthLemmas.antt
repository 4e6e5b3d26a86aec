-- How wide a line of the table is.
use Rattle.std.proofs.Common.{◌≡◌, ℕ, zero, suc, ◌+◌, ◌-◌, ◌*◌, ◌/◌, ◌%◌, ◌^◌, ◌<◌, ◌≤◌, Bool, true, false, List, [], ◌∷◌, length, min, get_or, Option, Some, None, codes, decimal, nat_eq, refl, arith, rules, length-append, if◌then◌else◌}
use Rattle.std.proofs.Math.Nat.{div-le_of_le-mul}
use Rattle.std.proofs.lemmas.Fmt.{length-decimal-le}
use Rattle.std.proofs.lemmas.List.{length-take}
use Rattle.mr_phases.specs.PhaseText.{phase_text}
use Rattle.mr_phases.specs.declared.phase_name.PhaseName.{PhaseName}
use Rattle.mr_phases.specs.declared.phase_name.PhaseName.TheVariants.{OldOnly, BothReadOld, BothReadNew, NewOnly}
use Rattle.mr_sightings.specs.Laws.{HasRoom}
use Rattle.mr_sightings.specs.Percentile.{percentile_of, bound_said, bound_texts, slowest_of}
use Rattle.mr_sightings.specs.Shown.{padding, right, left, zeros, digits_of, millis_text}
use Rattle.mr_sightings.specs.Table.{percent_text, rate_text, slowest_cell, table_head, times_cells, place_cells, gets_cells, row_text}
use Rattle.mr_sightings.specs.declared.table.Row.{Row}
use Rattle.mr_sightings.specs.declared.tally.Tally.{Tally}

length-padding : (count : ℕ) → count ≤ 16 → length (padding count) ≡ count
length-padding count most = omega (arith, length-take (min count 16) (codes "                "))

length-right : (columns : ℕ) (word : List ℕ) → columns ≤ 16 → length word ≤ columns → length (right columns word) ≡ columns
unfolding right
length-right columns word most fits =
    omega (arith, length-append (padding (columns - length word)) word, length-padding (columns - length word) (omega arith))

length-left : (columns : ℕ) (word : List ℕ) → columns ≤ 16 → length word ≤ columns → length (left columns word) ≡ columns
unfolding left
length-left columns word most fits =
    omega (arith, length-append word (padding (columns - length word)), length-padding (columns - length word) (omega arith))

-- a number of so many digits
short : (digits number : ℕ) → 0 < digits → number < 10 ^ digits → number < 2 ^ 64 → length (decimal number) ≤ digits
short = length-decimal-le

phase_fits : (phase : PhaseName) → length (phase_text phase) ≤ 13
phase_fits OldOnly = omega arith
phase_fits BothReadOld = omega arith
phase_fits BothReadNew = omega arith
phase_fits NewOnly = omega arith

length-zeros : (count : ℕ) → count ≤ 6 → length (zeros count) ≡ count
length-zeros count most = omega (arith, length-take (min count 6) (codes "000000"))

length-digits_of : (number : ℕ) → number < 1000 → length (digits_of 3 number) ≡ 3
unfolding digits_of
length-digits_of number small =
    let digits = short 3 number (omega arith) (omega arith) (omega arith) in
    omega (arith, length-append (zeros (3 - length (decimal number))) (decimal number), length-zeros (3 - length (decimal number)) (omega arith))

millis_fit : (micros : ℕ) → micros < 10 ^ 11 → length (millis_text micros) ≤ 12
unfolding millis_text
millis_fit micros small =
    let whole = short 8 (micros / 1000) (omega arith) (omega arith) (omega arith) in
    let rest = length-digits_of (micros % 1000) (omega arith) in
    omega (arith, length-append (decimal (micros / 1000)) (46 ∷ digits_of 3 (micros % 1000)))

slowest_fits : (greatest : ℕ) (place : Option ℕ) → greatest < 10 ^ 11 → length (slowest_cell (slowest_of greatest place)) ≤ 12
slowest_fits greatest None small = omega arith
slowest_fits greatest (Some place) small = millis_fit greatest small

-- no text of a list is longer than so many bytes
abbrev AreShort : ℕ → List (List ℕ) → Type 0
AreShort most [] = Unit {0}
AreShort most (text ∷ texts) = (length text ≤ most) × AreShort most texts

short_at : (most : ℕ) (texts : List (List ℕ)) (place : ℕ) → AreShort most texts → length (get_or texts place []) ≤ most
short_at most [] place are = omega arith
short_at most (text ∷ texts) zero are = are.0
short_at most (text ∷ texts) (suc place) are = short_at most texts place are.1

bounds_short : AreShort 9 bound_texts
bounds_short = search rules

bound_fits : (place : Option ℕ) → length (bound_said place) ≤ 9
bound_fits None = omega arith
bound_fits (Some place) = short_at 9 bound_texts place bounds_short

percent_fits : (hits misses : ℕ) → length (percent_text hits (hits + misses)) ≤ 7
unfolding percent_text
percent_fits hits misses =
    let most : hits * 1000 ≤ (hits + misses) * 1000 = omega arith in
    let tenths : hits * 1000 / (hits + misses) ≤ 1000 = div-le_of_le-mul (hits + misses) most in
    let whole = short 3 (hits * 1000 / (hits + misses) / 10) (omega arith) (omega arith) (omega arith) in
    let tenth = short 1 (hits * 1000 / (hits + misses) % 10) (omega arith) (omega arith) (omega arith) in
    omega (arith, length-append (decimal (hits * 1000 / (hits + misses) / 10)) (46 ∷ decimal (hits * 1000 / (hits + misses) % 10)))

rate_fits : (hits misses : ℕ) → length (rate_text hits misses) ≤ 7
rate_fits hits misses = go (nat_eq (hits + misses) 0)
  where
    go : (none : Bool) → length (if none then codes "-" else percent_text hits (hits + misses)) ≤ 7
    go true = omega arith
    go false = percent_fits hits misses

place_width : (row : Row) → row.hop < 10 ^ 4 → length (place_cells row) ≡ 21
unfolding place_cells
place_width row small =
    let hop = length-right 4 (decimal row.hop) (omega arith) (short 4 row.hop (omega arith) small (omega arith)) in
    let phase = length-left 13 (phase_text row.phase) (omega arith) (phase_fits row.phase) in
    simp length-append (omega arith)

gets_width : (tally : Tally) → tally.requests < 10 ^ 12 → length (gets_cells tally) ≡ 23
unfolding gets_cells
gets_width tally small =
    let requests = length-right 12 (decimal tally.requests) (omega arith) (short 12 tally.requests (omega arith) small (omega arith)) in
    let rate = length-right 7 (rate_text tally.hits tally.misses) (omega arith) (rate_fits tally.hits tally.misses) in
    simp length-append (omega arith)

times_width : (tally : Tally) → tally.greatest < 10 ^ 11 → length (times_cells tally) ≡ 34
unfolding times_cells
times_width tally small =
    let median = percentile_of 50 tally.times.counts in
    let middle = length-right 9 (bound_said median) (omega arith) (bound_fits median) in
    let tail = length-right 9 (bound_said (percentile_of 99 tally.times.counts)) (omega arith) (bound_fits (percentile_of 99 tally.times.counts)) in
    let slowest = length-right 12 (slowest_cell (slowest_of tally.greatest median)) (omega arith) (slowest_fits tally.greatest median small) in
    simp length-append (omega arith)

-- a row whose numbers fit
pub row_width : (row : Row) → HasRoom row → length (row_text row) ≡ 79
unfolding row_text
row_width row room =
    let place = place_width row room.hop in
    let gets = gets_width row.tally room.requests in
    let times = times_width row.tally room.greatest in
    simp length-append (omega arith)

-- and the line above
pub head_width : length table_head ≡ 79
unfolding table_head
head_width = refl
