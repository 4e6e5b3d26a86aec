-- What files in memory hold, which tests load in place of the system's.
use Rattle.std.specs.Prelude.{ℕ, ◌≤◌, List, [], ◌∷◌, length, if◌then◌else◌, Result, Ok, Err, Vec}
use Rattle.std.specs.Borrow.{Bor}
use Rattle.std.specs.Str.{bytes_eq}
use Rattle.mr_tool.specs.Sources.{Known, MayGive, MayFail, most_loaded}
use Rattle.mr_tool.specs.Sources.Known.{Absent, Holds}
use Rattle.mr_tool.specs.declared.sources.LoadFault.{LoadFault}

-- the file at a path: the first of that name
abbrev pub known_at : List (Bor (List ℕ) × Bor (List ℕ)) → List ℕ → Known
known_at [] path = Absent
known_at (file ∷ files) path = if bytes_eq file.0.now path then Holds file.1.now else known_at files path

-- what a load of the file at a path may give
abbrev pub IsReadAt : {Z : Type 0} → List (Bor (List ℕ) × Bor (List ℕ)) → List ℕ → Result (Vec ℕ Z) LoadFault → Type 0
IsReadAt files path (Ok bytes) = MayGive (known_at files path) bytes.items × (length bytes.items ≤ most_loaded)
IsReadAt files path (Err fault) = MayFail (known_at files path) fault
