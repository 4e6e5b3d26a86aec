-- What was counted in each phase.
use Rattle.std.specs.Prelude.{ℕ, zero, suc, ◌+◌, ◌*◌, ◌/◌, ◌%◌, ◌&&◌, ◌==◌, nat_eq, Bool, true, false, List, [], ◌∷◌, ◌++◌, Option, Some, None, if◌then◌else◌, codes, decimal}
use Rattle.mr_phases.specs.PhaseText.{phase_text}
use Rattle.mr_phases.specs.declared.phase_name.PhaseName.{PhaseName}
use Rattle.mr_phases.specs.declared.phase_name.PhaseName.TheVariants.{OldOnly, BothReadOld, BothReadNew, NewOnly}
use Rattle.mr_sightings.specs.Percentile.{percentile_of, bound_said, slowest_of}
use Rattle.mr_sightings.specs.Shown.{right, left, millis_text}
use Rattle.mr_sightings.specs.Tally.{tally_sum}
use Rattle.mr_sightings.specs.declared.table.Row.{Row}
use Rattle.mr_sightings.specs.declared.tally.Tally.{Tally}

-- both are the same phase
abbrev pub is_same_phase : PhaseName → PhaseName → Bool
is_same_phase OldOnly OldOnly = true
is_same_phase BothReadOld BothReadOld = true
is_same_phase BothReadNew BothReadNew = true
is_same_phase NewOnly NewOnly = true
is_same_phase one other = false

-- the row is of this migration and phase
abbrev pub is_of : ℕ → PhaseName → Row → Bool
is_of hop phase row = row.hop == hop && is_same_phase row.phase phase

-- more was counted in a phase: its row has it, or a new one at the end
abbrev pub with_tally : ℕ → PhaseName → Tally → List Row → List Row
with_tally hop phase tally [] = record { hop = hop; phase = phase; tally = tally } ∷ []
with_tally hop phase tally (row ∷ rows) =
    if is_of hop phase row then record row { tally = tally_sum row.tally tally } ∷ rows else row ∷ with_tally hop phase tally rows

-- more was counted in the phase of the row at this place
abbrev pub with_more : ℕ → Tally → List Row → List Row
with_more place tally [] = []
with_more zero tally (row ∷ rows) = record row { tally = tally_sum row.tally tally } ∷ rows
with_more (suc place) tally (row ∷ rows) = row ∷ with_more place tally rows

-- of so many gets this many found a value: in percent with one decimal, and what is left over is left out
unfoldable pub percent_text : ℕ → ℕ → List ℕ
percent_text hits gets = decimal (hits * 1000 / gets / 10) ++ (codes "." ++ decimal (hits * 1000 / gets % 10))

-- how many gets found a value; a dash where none was answered
abbrev pub rate_text : ℕ → ℕ → List ℕ
rate_text hits misses = if nat_eq (hits + misses) 0 then codes "-" else percent_text hits (hits + misses)

-- how long the slowest answer took, in milliseconds
abbrev pub slowest_cell : Option ℕ → List ℕ
slowest_cell None = codes "-"
slowest_cell (Some micros) = millis_text micros

-- what stands above the rows
unfoldable pub table_head : List ℕ
table_head = codes " hop  phase              requests   hits %     p50 ms     p99 ms        max ms\n"

-- how long answers took
unfoldable pub times_cells : Tally → List ℕ
times_cells tally =
    right 9 (bound_said (percentile_of 50 tally.times.counts))
    ++ (codes "  " ++ (right 9 (bound_said (percentile_of 99 tally.times.counts))
    ++ (codes "  " ++ right 12 (slowest_cell (slowest_of tally.greatest (percentile_of 50 tally.times.counts))))))

-- of which phase a row is
unfoldable pub place_cells : Row → List ℕ
place_cells row = right 4 (decimal row.hop) ++ (codes "  " ++ (left 13 (phase_text row.phase) ++ codes "  "))

-- how many requests there were, and what gets found
unfoldable pub gets_cells : Tally → List ℕ
gets_cells tally = right 12 (decimal tally.requests) ++ (codes "  " ++ (right 7 (rate_text tally.hits tally.misses) ++ codes "  "))

-- the row of a phase
unfoldable pub row_text : Row → List ℕ
row_text row = place_cells row ++ (gets_cells row.tally ++ (times_cells row.tally ++ codes "\n"))

-- the rows, in order
abbrev pub rows_text : List Row → List ℕ
rows_text [] = []
rows_text (row ∷ rows) = row_text row ++ rows_text rows

-- the table
abbrev pub table_text : List Row → List ℕ
table_text rows = table_head ++ rows_text rows
