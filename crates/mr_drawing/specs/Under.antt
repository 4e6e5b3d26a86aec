-- What is drawn below everything else.
use Rattle.std.specs.Prelude.{ℕ, ◌-◌, List, [], Bool, true, false, codes}
use Rattle.mr_phases.specs.PhaseText.{phase_text}
use Rattle.mr_phases.specs.declared.phase_name.PhaseName.{PhaseName}
use Rattle.mr_drawing.specs.Elements.{upright_text, level_text, box_text}
use Rattle.mr_drawing.specs.Places.{plus, times, across, middle, cells, down, center, node_height, backs_height}
use Rattle.mr_drawing.specs.declared.places.Frame.{Frame}
use Rattle.mr_drawing.specs.declared.shapes.Shape.{Shape}
use Rattle.mr_drawing.specs.declared.shapes.Shape.TheVariants as shape

-- the height of a lane of so many levels
abbrev pub lane_height : ℕ → ℕ
lane_height levels = times 24 levels - 2

-- a part of a lane in the colour of its phase, over so many columns and one more
abbrev pub lane_box : ℕ → ℕ → ℕ → ℕ → PhaseName → List ℕ
lane_box x more level height phase = box_text (phase_text phase) x (down level) (cells (plus more 1)) (lane_height height)

-- the class of a leg's line: dashed where it came again
abbrev pub leg_class : Bool → List ℕ
leg_class true = codes "leg again"
leg_class false = codes "leg"

-- the class of a reply's line: dashed where it came again
abbrev pub back_class : Bool → List ℕ
back_class true = codes "back again"
back_class false = codes "back"

-- the line of a reply that is lost, which ends soon
abbrev pub stub_text : ℕ → ℕ → List ℕ
stub_text x y = upright_text (codes "back lost") x y (y - 14)

-- what of a shape is drawn below everything else
abbrev pub under_text : Frame → Shape → List ℕ
under_text frame (shape.ProxyLane proxy level height more phase hop) = lane_box 176 more level height phase
under_text frame (shape.Phase column more level height phase hop) = lane_box (across column) more level height phase
under_text frame (shape.NodeLane node) = level_text (codes "node") 176 (across frame.columns) (node_height frame node)
under_text frame (shape.Leg column level node kind side again) = upright_text (leg_class again) (middle column) (center level) (node_height frame node)
under_text frame (shape.LostLeg column level node) = upright_text (codes "leg lost") (middle column) (center level) (node_height frame node)
under_text frame (shape.Back column level node outcome again) = upright_text (back_class again) (middle column) (node_height frame node) (center level)
under_text frame (shape.LostBack column node) = stub_text (plus (middle column) 14) (node_height frame node)
under_text frame (shape.GivenUp column level) = upright_text (codes "leg") (middle column) (center level) (backs_height frame)
under_text frame other = []
