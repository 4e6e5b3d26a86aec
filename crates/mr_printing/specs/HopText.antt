-- How a printed line names a hop: by its number, and only where there is more than one.
use Rattle.std.specs.Prelude.{ℕ, List, [], ◌++◌, nat_lt, if◌then◌else◌, Option, Some, None, codes, decimal}

-- the hop that a line tells, of so many and of this number; none where it is the only one
abbrev pub told_hop : ℕ → ℕ → Option ℕ
told_hop hops number = if nat_lt 1 hops then Some number else None

-- what stands behind a phase: the hop that it is of
abbrev pub of_hop : Option ℕ → List ℕ
of_hop None = []
of_hop (Some number) = codes " of hop " ++ decimal number

-- what a line of a timeline begins with: the hop that it is of
abbrev pub hop_mark : Option ℕ → List ℕ
hop_mark None = []
hop_mark (Some number) = codes "hop " ++ (decimal number ++ codes " ")
