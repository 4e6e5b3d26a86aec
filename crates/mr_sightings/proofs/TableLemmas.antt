-- How a row is found, and what more is counted in it.
use Rattle.std.proofs.Common.{◌≡◌, ℕ, zero, suc, ◌<◌, ◌≤◌, Bool, true, false, List, [], ◌∷◌, ◌++◌, length, take, drop, set, get_or, Some, None, nat_lt, refl, ap, sym, ◌∙◌, arith, if◌then◌else◌}
use Rattle.std.specs.Prelude.{position}
use Rattle.std.specs.List.{position_or_len}
use Rattle.std.proofs.lemmas.List.Sums.{fails_before_first}
use Rattle.std.proofs.lemmas.Bool.{ltb-false}
use Rattle.std.proofs.lemmas.List.Quantifiers.{position-Some}
use Rattle.std.proofs.Math.Seq.{take-append_seam}
use Rattle.mr_phases.specs.declared.phase_name.PhaseName.{PhaseName}
use Rattle.mr_sightings.specs.Table.{is_of, with_tally, with_more}
use Rattle.mr_sightings.specs.Tally.{tally_sum}
use Rattle.mr_sightings.specs.declared.table.Row.{Row}
use Rattle.mr_sightings.specs.declared.tally.Tally.{Tally}

-- the row at a place is written with more
pub row_written : (place : ℕ) (tally : Tally) (d e : Row) (rows : List Row) → place < length rows
    → set rows place (record (get_or rows place d) { tally = tally_sum (get_or rows place e).tally tally }) ≡ with_more place tally rows
row_written place tally d e [] within = absurd (omega arith)
row_written zero tally d e (row ∷ rows) within = refl
row_written (suc place) tally d e (row ∷ rows) within = ap (λ rest. row ∷ rest) (row_written place tally d e rows (omega arith))

-- the first row that is of the phase has more
pub more_at : (hop : ℕ) (phase : PhaseName) (tally : Tally) (rows : List Row) (place : ℕ) (d : Row) → place < length rows
    → is_of hop phase (get_or rows place d) ≡ true → ((k : ℕ) → k < place → is_of hop phase (get_or rows k d) ≡ false)
    → with_more place tally rows ≡ with_tally hop phase tally rows
more_at hop phase tally [] place d within here before = absurd (omega arith)
more_at hop phase tally (row ∷ rows) zero d within here before = rw here refl
more_at hop phase tally (row ∷ rows) (suc place) d within here before =
    let other = before 0 (omega arith) in
    rw other (ap (λ rest. row ∷ rest) (more_at hop phase tally rows place d (omega arith) here (λ k h. before (suc k) (omega arith))))

some_if : {X : Type 0} → (test : Bool) (x : X) → (if test then Some x else None) ≡ None → test ≡ false
some_if false x none = refl
some_if true x none = cc

-- a list of which no element is found has none that passes
no_first : (test : Row → Bool) (rows : List Row) → length rows ≤ position_or_len test rows
    → (k : ℕ) (d : Row) → k < length rows → test (get_or rows k d) ≡ false
no_first test rows none k d within = fails_before_first test rows k d (let before : k < position_or_len test rows = omega arith in before)

-- a row behind all that are of other phases
new_row_behind : (hop : ℕ) (phase : PhaseName) (tally : Tally) (rows : List Row) (d : Row)
    → ((k : ℕ) → k < length rows → is_of hop phase (get_or rows k d) ≡ false)
    → rows ++ record { hop = hop; phase = phase; tally = tally } ∷ [] ≡ with_tally hop phase tally rows
new_row_behind hop phase tally [] d others = refl
new_row_behind hop phase tally (row ∷ rows) d others =
    let other = others 0 (omega arith) in
    rw other (ap (λ rest. row ∷ rest) (new_row_behind hop phase tally rows d (λ k h. others (suc k) (omega arith))))

-- no row is of the phase
pub new_row : (hop : ℕ) (phase : PhaseName) (tally : Tally) (rows : List Row) → position (is_of hop phase) rows ≡ None
    → rows ++ record { hop = hop; phase = phase; tally = tally } ∷ [] ≡ with_tally hop phase tally rows
new_row hop phase tally rows none =
    let missed = some_if (nat_lt (position_or_len (is_of hop phase) rows) (length rows)) (position_or_len (is_of hop phase) rows) none in
    let behind : length rows ≤ position_or_len (is_of hop phase) rows = omega (arith, ltb-false (position_or_len (is_of hop phase) rows) (length rows) missed) in
    let blank : Row = record { hop = hop; phase = phase; tally = tally } in
    new_row_behind hop phase tally rows blank (λ k within. no_first (is_of hop phase) rows behind k blank within)

-- the first row of the phase has more, and all rows are kept
pub row_has_more : (hop : ℕ) (phase : PhaseName) (tally : Tally) (rows new : List Row) (place count : ℕ) → Some place ≡ position (is_of hop phase) rows
    → new ≡ with_more place tally rows → length new ≡ count
    → take count (new ++ drop (length new) rows) ≡ with_tally hop phase tally rows
row_has_more hop phase tally rows new place count found more same =
    let blank : Row = record { hop = hop; phase = phase; tally = tally } in
    let here = position-Some (is_of hop phase) rows place blank (sym found) in
    let whole : take count (new ++ drop (length new) rows) ≡ new = rw (← same) (take-append_seam new (drop (length new) rows)) in
    whole ∙ more ∙ more_at hop phase tally rows place blank here.0 here.1 here.2
