-- What is told of the program's version.
use Rattle.std.specs.Prelude.{ℕ, List, codes}

-- the line that tells it
abbrev pub told_version : List ℕ
told_version = codes "migctl 0.15.1\n"

-- its number
abbrev pub told_number : List ℕ
told_number = codes "0.15.1"
