-- What the laws speak of.
use Rattle.std.specs.Prelude.{ℕ, ◌^◌, ◌<◌, List, sum, take}
use Rattle.mr_sightings.specs.declared.table.Row.{Row}

-- how many answers lie in the buckets before a place
abbrev pub answers_before : ℕ → List ℕ → ℕ
answers_before place counts = sum (take place counts)

-- the numbers of a row fit their columns
pub record HasRoom (row : Row) : Type 0 where
  pub hop : row.hop < 10 ^ 4
  pub requests : row.tally.requests < 10 ^ 12
  pub greatest : row.tally.greatest < 10 ^ 11
