-- Which sides a request goes to in a phase, the old one first.
use Rattle.std.specs.Prelude.{ℕ, List, [], ◌∷◌}
use Rattle.mr_phases.specs.declared.side.Side.{Side}
use Rattle.mr_phases.specs.declared.side.Side.TheVariants.{Old, New}
use Rattle.mr_phases.specs.declared.side.RequestKind.{RequestKind}
use Rattle.mr_phases.specs.declared.side.RequestKind.TheVariants.{Get, Set, Delete}
use Rattle.mr_phases.specs.declared.sides.Sides.{Sides}
use Rattle.mr_phases.specs.declared.sides.Sides.TheVariants.{One, Two}
use Rattle.mr_phases.specs.declared.phase_name.PhaseName.{PhaseName}
use Rattle.mr_phases.specs.declared.phase_name.PhaseName.TheVariants.{OldOnly, BothReadOld, BothReadNew, NewOnly}
use Rattle.mr_phases.specs.Schedule.{Hop, phase_of}

-- the side of gets and sets (from: MigrateRoute; the side of sets own)
abbrev pub read_side_of : PhaseName → Side
read_side_of OldOnly = Old
read_side_of BothReadOld = Old
read_side_of BothReadNew = New
read_side_of NewOnly = New

-- the sides of a delete (from: MigrateRoute)
abbrev pub delete_sides_of : PhaseName → List Side
delete_sides_of OldOnly = Old ∷ []
delete_sides_of BothReadOld = Old ∷ New ∷ []
delete_sides_of BothReadNew = Old ∷ New ∷ []
delete_sides_of NewOnly = New ∷ []

-- the sides of a request (from: MigrateRoute)
abbrev pub sides_of : RequestKind → PhaseName → List Side
sides_of Get phase = read_side_of phase ∷ []
sides_of Set phase = read_side_of phase ∷ []
sides_of Delete phase = delete_sides_of phase

-- the sides of a request at a reading (from: MigrateRoute)
abbrev pub sides_at : List Hop → RequestKind → ℕ → List Side
sides_at hops kind t = sides_of kind (phase_of hops t)

-- the sides that a value of the code stands for
abbrev pub sides_in : Sides → List Side
sides_in (One side) = side ∷ []
sides_in (Two both) = Old ∷ New ∷ []
