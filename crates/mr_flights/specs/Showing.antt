-- How what a canary sees is shown.
use Rattle.std.specs.Prelude.{ℕ, ◌-◌, Bool, true, false, List, [], ◌∷◌, ◌++◌, length, take, if◌then◌else◌, codes}
use Rattle.mr_flights.specs.declared.showing.Manner.{Manner}
use Rattle.mr_flights.specs.declared.showing.Manner.TheVariants.{Lines, Drawn, Objects}
use Rattle.mr_flights.specs.declared.showing.Sight.{Sight}
use Rattle.mr_servers.specs.declared.screen.Screen.{Screen}
use Rattle.mr_sightings.specs.CameBack.{came_back_text}
use Rattle.mr_sightings.specs.Json.{came_back_json, json_line, second_json, verdict_json}
use Rattle.mr_sightings.specs.Second.{second_text}
use Rattle.mr_sightings.specs.Table.{table_text}
use Rattle.mr_sightings.specs.Verdict.{verdict_text}
use Rattle.mr_sightings.specs.declared.came_back.CameBack.{CameBack}
use Rattle.mr_sightings.specs.declared.second.Second.{Second}
use Rattle.mr_sightings.specs.declared.table.Row.{Row}
use Rattle.mr_sightings.specs.declared.verdict.Verdict.{Verdict}

-- how it is shown, as JSON or not, where the output goes to this place
abbrev pub manner_of : Bool → Screen → Manner
manner_of true screen = Objects
manner_of false screen = if screen.terminal then Drawn else Lines

-- what is told of something that came back
abbrev pub found_text : Manner → CameBack → List ℕ
found_text Lines found = came_back_text found
found_text Drawn found = came_back_text found
found_text Objects found = json_line (came_back_json found)

-- what is told of each thing that came back
abbrev pub found_texts : Manner → List CameBack → List ℕ
found_texts manner [] = []
found_texts manner (one ∷ more) = found_text manner one ++ found_texts manner more

-- a line without its end
abbrev pub without_end : List ℕ → List ℕ
without_end line = take (length line - 1) line

-- a line that a terminal cuts where it doesn't fit, and behind which the cursor stays
abbrev pub drawn_line : List ℕ → List ℕ
drawn_line line = (27 ∷ codes "[?7l") ++ (without_end line ++ (27 ∷ codes "[?7h"))

-- what is told of a second
abbrev pub second_shown : Manner → Second → List ℕ
second_shown Lines second = second_text second
second_shown Drawn second = drawn_line (second_text second)
second_shown Objects second = json_line (second_json second)

-- where a terminal is written on: at the beginning of its last line, which is cleared
abbrev pub line_start : Manner → List ℕ
line_start Lines = []
line_start Drawn = 13 ∷ 27 ∷ codes "[K"
line_start Objects = []

-- what is written of a second: what came back in it, and then the second
abbrev pub shown : Manner → Sight → List ℕ
shown manner sight = line_start manner ++ (found_texts manner sight.found.now ++ second_shown manner sight.second)

-- what is written at the end: the table and the verdict, below the last line of a terminal, or the verdict alone as an object
abbrev pub ending : Manner → List Row → Verdict → List ℕ
ending Lines rows verdict = table_text rows ++ verdict_text verdict
ending Drawn rows verdict = 10 ∷ (table_text rows ++ verdict_text verdict)
ending Objects rows verdict = json_line (verdict_json verdict)
