-- How a side is printed.
use Rattle.std.specs.Prelude.{ℕ, List, codes}
use Rattle.mr_phases.specs.declared.side.Side.{Side}
use Rattle.mr_phases.specs.declared.side.Side.TheVariants.{Old, New}

-- the printed name of each side
abbrev pub side_text : Side → List ℕ
side_text Old = codes "old"
side_text New = codes "new"
