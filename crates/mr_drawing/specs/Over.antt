-- What is drawn above the lines.
use Rattle.std.specs.Prelude.{ℕ, ◌-◌, ◌==◌, List, [], ◌++◌, map, slice_get, Bool, true, false, if◌then◌else◌, Option, Some, None, unwrap_or, codes}
use Rattle.std.specs.Borrow.{Bor}
use Rattle.mr_phases.specs.declared.phase_name.PhaseName.{PhaseName}
use Rattle.mr_world.specs.declared.event.Event.{Event}
use Rattle.mr_world.specs.declared.event.Event.TheVariants.{Client}
use Rattle.mr_drawing.specs.Elements.{opened, attribute, box_text, words_text, counted_text}
use Rattle.mr_drawing.specs.Escape.{shown}
use Rattle.mr_drawing.specs.Labels.{shortened, request_label, kind_text, outcome_text, phase_letter}
use Rattle.mr_drawing.specs.Places.{plus, across, middle, cells, down, node_height, legs_height, backs_height, foot, room_of}
use Rattle.mr_drawing.specs.Under.{lane_height}
use Rattle.mr_drawing.specs.declared.over.Told.{Told}
use Rattle.mr_drawing.specs.declared.places.Frame.{Frame}
use Rattle.mr_drawing.specs.declared.shapes.Shape.{Shape}
use Rattle.mr_drawing.specs.declared.shapes.Shape.TheVariants as shape

-- the texts that shapes tell
pub record ToldView : Type 0 where
  -- the names of the nodes by their lanes
  pub names : List (List ℕ)
  -- the events by their columns
  pub events : List Event
  -- the text of each of them
  pub titles : List (List ℕ)

-- the text that is there, or nothing
abbrev pub bytes_at : Option (Bor (List ℕ)) → List ℕ
bytes_at None = []
bytes_at (Some text) = text.now

-- the text of this place, or nothing
abbrev pub text_at : List (List ℕ) → ℕ → List ℕ
text_at texts place = unwrap_or (slice_get texts place) []

-- what is told by references
abbrev pub told_view : Told → ToldView
told_view told = record { names = told.names.now; events = told.events.now; titles = map (λ title. title.now) told.titles.now }

-- the name that is there, or nothing
abbrev pub name_at : Option (List ℕ) → List ℕ
name_at None = []
name_at (Some name) = name

-- what a client's event asks
abbrev pub label_of : Option Event → List ℕ
label_of (Some (Client proxy request)) = request_label request
label_of other = []

-- the letter of a phase, with the number of its hop where that isn't the first
abbrev pub mark_text : ℕ → ℕ → PhaseName → ℕ → List ℕ
mark_text x level phase hop =
    if hop == 0 then words_text (codes "mark") (plus x 6) (plus (down level) 17) (phase_letter phase)
    else counted_text (codes "mark") (plus x 6) (plus (down level) 17) (phase_letter phase) hop

-- a word in the middle of a column
abbrev pub said_text : List ℕ → ℕ → ℕ → List ℕ → List ℕ
said_text class column y word = words_text class (middle column) (plus y 4) word

-- the class of a request's bar: red where the verdict blames it
abbrev pub bar_class : Bool → List ℕ
bar_class true = codes "bar blamed"
bar_class false = codes "bar"

-- what a request asks, as far as its bar over so many columns has room
abbrev pub ask_text : Option Event → ℕ → ℕ → ℕ → List ℕ
ask_text event column columns level =
    words_text (codes "ask") (plus (across column) 9) (plus (down level) 16) (shortened (room_of columns) (label_of event))

-- the box of a request over so many columns
abbrev pub bar_box_text : ℕ → ℕ → ℕ → Bool → List ℕ
bar_box_text column columns level blamed =
    box_text (bar_class blamed) (plus (across column) 4) (plus (down level) 3) (cells columns - 8) 18

-- the bar of a request over so many columns
abbrev pub bar_text : Option Event → ℕ → ℕ → ℕ → Bool → List ℕ
bar_text event column columns level blamed = bar_box_text column columns level blamed ++ ask_text event column columns level

-- the box over the whole height of a column, without its end
abbrev pub column_box_text : Frame → ℕ → List ℕ
column_box_text frame column =
    opened (codes "rect") (codes "event")
    ++ (attribute (codes "x") (across column)
    ++ (attribute (codes "y") 152 ++ (attribute (codes "width") 56 ++ attribute (codes "height") (foot frame - 152))))

-- the event as it stands, over the whole height of its column
abbrev pub title_text : Frame → ℕ → List ℕ → List ℕ
title_text frame column title = column_box_text frame column ++ (codes "><title>" ++ (shown title ++ codes "</title></rect>\n"))

-- the number of a column
abbrev pub number_text : ℕ → List ℕ
number_text column = counted_text (codes "number") (middle column) 166 [] column

-- the number of a column, and over its whole height the event as it stands
abbrev pub column_text : Frame → ℕ → List ℕ → List ℕ
column_text frame column title = number_text column ++ title_text frame column title

-- that a leg was lost, in the middle of its line and at its node
abbrev pub lost_leg_text : Frame → ℕ → ℕ → List ℕ
lost_leg_text frame column node =
    said_text (codes "said") column (legs_height frame) (codes "lost") ++ said_text (codes "cross") column (node_height frame node) (codes "x")

-- that a reply was lost
abbrev pub lost_back_text : Frame → ℕ → ℕ → List ℕ
lost_back_text frame column node =
    said_text (codes "said") column (backs_height frame) (codes "lost")
    ++ words_text (codes "cross") (plus (middle column) 14) (node_height frame node - 14) (codes "x")

-- the break of a node's lane
abbrev pub node_break_text : Frame → ℕ → ℕ → List ℕ
node_break_text frame column node =
    box_text (codes "gap") (middle column - 6) (node_height frame node - 4) 12 8
    ++ said_text (codes "said") column (node_height frame node - 12) (codes "restart")

-- the break of a proxy's lane
abbrev pub proxy_break_text : ℕ → ℕ → ℕ → List ℕ
proxy_break_text column level height =
    box_text (codes "gap") (middle column - 3) (down level) 6 (lane_height height)
    ++ said_text (codes "said") column (plus (down level) 13) (codes "restart")

-- the name of a node's lane
abbrev pub node_name_text : Frame → ℕ → Option (List ℕ) → List ℕ
node_name_text frame node name = words_text (codes "name") 16 (plus (node_height frame node) 4) (shortened 22 (name_at name))

-- the name of a proxy's lane, and the letter of its first phase
abbrev pub proxy_name_text : ℕ → ℕ → PhaseName → ℕ → List ℕ
proxy_name_text proxy level phase hop =
    counted_text (codes "name") 16 (plus (down level) 17) (codes "proxy ") proxy ++ mark_text 176 level phase hop

-- what of a lane or a request is drawn above the lines
abbrev pub request_text : ToldView → Frame → Shape → List ℕ
request_text told frame (shape.ProxyLane proxy level height more phase hop) = proxy_name_text proxy level phase hop
request_text told frame (shape.NodeLane node) = node_name_text frame node (slice_get told.names node)
request_text told frame (shape.Column column) = column_text frame column (text_at told.titles column)
request_text told frame (shape.Phase column more level height phase hop) = mark_text (across column) level phase hop
request_text told frame (shape.Bar column more level blamed) = bar_text (slice_get told.events column) column (plus more 1) level blamed
request_text told frame other = []

-- what of any other shape is drawn above the lines
abbrev pub way_text : Frame → Shape → List ℕ
way_text frame (shape.Leg column level node kind side again) = said_text (codes "said") column (legs_height frame) (kind_text kind side)
way_text frame (shape.LostLeg column level node) = lost_leg_text frame column node
way_text frame (shape.Back column level node outcome again) = said_text (codes "said") column (backs_height frame) (outcome_text outcome)
way_text frame (shape.LostBack column node) = lost_back_text frame column node
way_text frame (shape.GivenUp column level) = said_text (codes "said") column (backs_height frame) (codes "gave up")
way_text frame (shape.Quit column level) = said_text (codes "said") column (plus (down level) 13) (codes "quit")
way_text frame (shape.NodeBreak column node) = node_break_text frame column node
way_text frame (shape.ProxyBreak column level height) = proxy_break_text column level height
way_text frame (shape.Refused column) = said_text (codes "said bad") column (legs_height frame) (codes "refused")
way_text frame (shape.Unplayed column) = said_text (codes "said") column (legs_height frame) (codes "-")
way_text frame other = []

-- what of a shape is drawn above the lines
abbrev pub over_text : ToldView → Frame → Shape → List ℕ
over_text told frame shape = request_text told frame shape ++ way_text frame shape
