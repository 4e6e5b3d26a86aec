-- What is shown of looks, and of what came of them.
use Rattle.std.specs.Prelude.{ℕ, ◌==◌, ◌||◌, ◌&&◌, Bool, true, false, not, List, [], ◌∷◌, ◌++◌, if◌then◌else◌, codes}
use Rattle.serde_json.specs.Written.{compact_text}
use Rattle.mr_servers.specs.declared.screen.Screen.{Screen}
use Rattle.mr_watch.specs.Changes.{change_text}
use Rattle.mr_watch.specs.Json.{look_json}
use Rattle.mr_watch.specs.Text.{look_text}
use Rattle.mr_watch.specs.declared.finding.Finding.{Finding}
use Rattle.mr_watch.specs.declared.finding.Finding.TheVariants.{Unseen, Holds, Broken}
use Rattle.mr_watch.specs.declared.finding.Findings.{Findings}
use Rattle.mr_watch.specs.declared.view.View.{View}
use Rattle.mr_looks.specs.declared.last_lines.Unreached.{Unreached}
use Rattle.mr_looks.specs.declared.manner.Manner.{Manner}
use Rattle.mr_looks.specs.declared.manner.Manner.TheVariants.{Whole, Drawn, Changes, Objects}

-- how looks are shown of a watch that asks for JSON or not, and for one look or more, and whose output goes to this place
abbrev pub manner_of : Bool → Bool → Screen → Manner
manner_of true once screen = Objects
manner_of false true screen = Whole (screen.terminal && screen.colours)
manner_of false false screen = if screen.terminal then Drawn screen.colours else Changes

-- before a line end the rest of the line is cleared
abbrev pub drawn_byte : ℕ → List ℕ
drawn_byte byte = if byte == 10 then 27 ∷ codes "[K\n" else byte ∷ []

-- a text, of whose lines each clears the rest of what it is drawn over
abbrev pub drawn : List ℕ → List ℕ
drawn [] = []
drawn (byte ∷ bytes) = drawn_byte byte ++ drawn bytes

-- the top of the screen, which the first frame clears
abbrev pub frame_top : Bool → List ℕ
frame_top first = (27 ∷ codes "[H") ++ (if first then 27 ∷ codes "[2J" else [])

-- a text that is drawn in place of what the terminal shows: what stands below it is cleared
abbrev pub frame : Bool → List ℕ → List ℕ
frame first text = frame_top first ++ (drawn text ++ (27 ∷ codes "[J"))

-- a look as JSON, with a line end
abbrev pub json_line : View → List ℕ
json_line view = compact_text (look_json view) ++ codes "\n"

-- what is shown of a look, the first one or not, where these were the findings before it
abbrev pub shown : Manner → Bool → Findings → View → List ℕ
shown (Whole colours) first before view = look_text colours view
shown (Drawn colours) first before view = frame first (look_text colours view)
shown Changes first before view = change_text before view
shown Objects first before view = json_line view

-- the premise was seen broken
abbrev pub is_broken : Finding → Bool
is_broken Unseen = false
is_broken Holds = false
is_broken Broken = true

-- the last line of a premise
abbrev pub broken_line : Finding → List ℕ → List ℕ
broken_line finding name = if is_broken finding then codes "broken: " ++ (name ++ codes "\n") else []

-- a line for each premise that was seen broken
abbrev pub broken_lines : Findings → List ℕ
broken_lines findings =
    broken_line findings.same (codes "same configuration")
    ++ (broken_line findings.empty (codes "new pool empty")
    ++ (broken_line findings.near (codes "clocks near")
    ++ broken_line findings.forward (codes "no clock went back")))

-- the line of a service that was never reached
unfoldable pub unreached_line : List ℕ → List ℕ
unreached_line address = codes "never reached: " ++ (address ++ codes "\n")

-- a line for each service that was never reached
abbrev pub unreached_lines : List Unreached → List ℕ
unreached_lines [] = []
unreached_lines (one ∷ others) = unreached_line one.address.now ++ unreached_lines others

-- the last lines of a watch; where looks are JSON there are none
abbrev pub last_lines : Manner → Findings → List Unreached → List ℕ
last_lines Objects findings unreached = []
last_lines manner findings unreached = broken_lines findings ++ unreached_lines unreached

-- one of the premises was seen broken
abbrev pub any_broken : Findings → Bool
any_broken findings = is_broken findings.same || (is_broken findings.empty || (is_broken findings.near || is_broken findings.forward))

-- a watch saw nothing wrong: no premise was seen broken, and each service was reached
abbrev pub is_sound : Findings → List Unreached → Bool
is_sound findings [] = not (any_broken findings)
is_sound findings (one ∷ others) = false
