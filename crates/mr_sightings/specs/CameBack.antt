-- What is told where something came back that was deleted.
use Rattle.std.specs.Prelude.{ℕ, List, ◌++◌, codes, decimal}
use Rattle.mr_sightings.specs.Shown.{printable, digits_of, place_text}
use Rattle.mr_sightings.specs.declared.came_back.CameBack.{CameBack}
use Rattle.mr_sightings.specs.declared.came_back.Deed.{Deed}

-- what was asked, and who was
unfoldable pub who_text : List ℕ → List ℕ → List ℕ
who_text name proxy = codes "  " ++ (name ++ (codes "at " ++ proxy))

-- when that was, to the microsecond
unfoldable pub moment_text : ℕ → ℕ → List ℕ
moment_text second micros = codes ", second " ++ (decimal second ++ (codes "." ++ digits_of 6 micros))

-- the line of a request
unfoldable pub deed_line : List ℕ → Deed → List ℕ
deed_line name deed =
    who_text name deed.proxy.now ++ (moment_text deed.second deed.micros ++ (codes ", " ++ (place_text deed.phase deed.hop ++ codes "\n")))

-- the key, and a line for each of the three requests
unfoldable pub came_back_text : CameBack → List ℕ
came_back_text found =
    codes "came back: " ++ (printable found.key.now ++ (codes "\n" ++ (deed_line (codes "set     ") found.set
    ++ (deed_line (codes "delete  ") found.delete ++ deed_line (codes "get     ") found.get))))
