-- The whole picture of a transcript.
use Rattle.std.specs.Prelude.{ℕ, ◌+◌, nat_le, List, [], ◌∷◌, ◌++◌, length, map, take, flat_map, Bool, true, false, if◌then◌else◌, codes, decimal}
use Rattle.mr_history.specs.declared.op_id.OpId.{OpId}
use Rattle.mr_history.specs.declared.entry.Entry.{Entry}
use Rattle.mr_shown.specs.declared.verdict.KeptVerdict.{KeptVerdict}
use Rattle.mr_shown.specs.declared.verdict.KeptVerdict.TheVariants.{Safe, Stale, Invented}
use Rattle.mr_world.specs.declared.message.Delivery.{Delivery}
use Rattle.mr_world.specs.declared.message.Message.{Message}
use Rattle.mr_world.specs.declared.note.Note.{Note}
use Rattle.mr_world.specs.declared.setup.ProxySetup.{ProxySetup}
use Rattle.mr_world.specs.declared.event.Event.{Event}
use Rattle.mr_drawing.specs.Blame.{blame_of}
use Rattle.mr_drawing.specs.Elements.{placed, attribute, box_text, words_text, counted_text}
use Rattle.mr_drawing.specs.Names.{names_of}
use Rattle.mr_drawing.specs.Over.{ToldView, over_text}
use Rattle.mr_drawing.specs.Places.{plus, times, foot, whole_width}
use Rattle.mr_drawing.specs.Rows.{levels_of}
use Rattle.mr_drawing.specs.Shapes.{shapes_of}
use Rattle.mr_drawing.specs.Steps.{ReachView, steps_from}
use Rattle.mr_drawing.specs.Under.{under_text}
use Rattle.mr_drawing.specs.declared.style.TheConstants.{LEGEND, START, STYLE}
use Rattle.mr_drawing.specs.declared.picture.Scene.{Scene}
use Rattle.mr_drawing.specs.declared.places.Frame.{Frame}
use Rattle.mr_drawing.specs.declared.shapes.Shape.{Shape}
use Rattle.mr_drawing.specs.declared.steps.Step.{Step}

-- what is drawn of a transcript
pub record SceneView : Type 0 where
  -- the proxies by their numbers, as they began
  pub proxies : List ProxySetup
  -- the events, in order
  pub events : List Event
  -- the text of each event
  pub titles : List (List ℕ)
  -- what became of each event that was accepted, from the first on
  pub notes : List Note
  -- each message that was sent, by its number
  pub sent : List Message
  -- each delivery, by the number of its reply
  pub replies : List Delivery
  pub entries : List Entry
  pub verdict : KeptVerdict
  -- the lines at the top
  pub said : List (List ℕ)

-- what is drawn by references
abbrev pub scene_view : Scene → SceneView
scene_view scene =
    record {
      proxies = scene.proxies.now;
      events = scene.events.now;
      titles = map (λ title. title.now) scene.titles.now;
      notes = scene.notes.now;
      sent = scene.sent.now;
      replies = scene.replies.now;
      entries = scene.entries.now;
      verdict = scene.verdict.now;
      said = map (λ line. line.now) scene.said.now;
    }

-- the name of a request: proxy, incarnation and number
unfoldable pub op_text : OpId → List ℕ
op_text op = decimal op.proxy ++ (codes "." ++ (decimal op.incarnation ++ (codes "." ++ decimal op.number)))

-- the sentence that a get shows what a delete had removed
unfoldable pub stale_text : OpId → OpId → List ℕ
stale_text get delete =
    placed (codes "plain bad") 16 102
    ++ (codes "get " ++ (op_text get ++ (codes " shows what delete " ++ (op_text delete ++ codes " had removed</text>\n"))))

-- the sentence that a get shows what nothing had stored
unfoldable pub invented_text : OpId → List ℕ
invented_text get =
    placed (codes "plain bad") 16 102 ++ (codes "get " ++ (op_text get ++ codes " shows what nothing had stored</text>\n"))

-- the sentence of a verdict that a hit is bad
abbrev pub blame_text : KeptVerdict → List ℕ
blame_text Safe = []
blame_text (Stale get key delete) = stale_text get delete
blame_text (Invented get key) = invented_text get

-- the lines at the top, the first of this number
abbrev pub lines_text : ℕ → List (List ℕ) → List ℕ
lines_text place [] = []
lines_text place (line ∷ lines) = words_text (codes "plain") 16 (plus 30 (times 24 place)) line ++ lines_text (place + 1) lines

-- how many events there are, where not all are drawn
abbrev pub cut_text : ℕ → List ℕ
cut_text events = if nat_le events 2000 then [] else counted_text (codes "faint") 16 146 (codes "the first 2000 events of ") events

-- what each picture begins with
unfoldable pub start_text : List ℕ
start_text = START.now

-- the beginning of a picture of this width and this height
unfoldable pub view_text : ℕ → ℕ → List ℕ
view_text width height =
    start_text
    ++ (attribute (codes "width") width ++ (attribute (codes "height") height ++ codes ">\n"))

-- its colours
unfoldable pub style_text : List ℕ
style_text = STYLE.now

-- its ground
abbrev pub ground_text : Frame → List ℕ
ground_text frame = box_text (codes "ground") 0 0 (whole_width frame) (foot frame)

-- what colours, letters and lines mean
unfoldable pub legend_text : List ℕ
legend_text = words_text (codes "faint") 16 126 LEGEND.now

-- the beginning of the picture, with its colours and its ground
abbrev pub begun_text : Frame → List ℕ
begun_text frame = view_text (whole_width frame) (foot frame) ++ (style_text ++ ground_text frame)

-- what stands above the lanes
abbrev pub head_text : Frame → SceneView → List ℕ
head_text frame scene =
    begun_text frame ++ (lines_text 0 scene.said ++ (blame_text scene.verdict ++ (legend_text ++ cut_text (length scene.events))))

-- what of the shapes is drawn below everything else
abbrev pub unders_text : Frame → List Shape → List ℕ
unders_text frame shapes = flat_map (under_text frame) shapes

-- what of the shapes is drawn above the lines
abbrev pub overs_text : ToldView → Frame → List Shape → List ℕ
overs_text told frame shapes = flat_map (over_text told frame) shapes

-- the text of a picture with these shapes
abbrev pub whole_text : Frame → SceneView → ToldView → List Shape → List ℕ
whole_text frame scene told shapes = head_text frame scene ++ (unders_text frame shapes ++ (overs_text told frame shapes ++ codes "</svg>\n"))

-- how much a picture of these steps has of everything
abbrev pub frame_of : List Step → ℕ → ℕ → Frame
frame_of steps proxies nodes = record { columns = length steps; levels = levels_of steps proxies; nodes = nodes }

-- what the steps of a scene are made of, beside its events
abbrev pub reach_of : SceneView → ReachView
reach_of scene =
    record {
      proxies = scene.proxies;
      names = names_of scene.proxies;
      sent = scene.sent;
      replies = scene.replies;
      blame = blame_of scene.entries scene.verdict;
    }

-- the steps of these events of a scene
unfoldable pub drawn_steps : SceneView → List Event → List Step
drawn_steps scene drawn = steps_from (reach_of scene) scene.notes 0 drawn

-- their shapes
unfoldable pub drawn_shapes : SceneView → List Event → Bool → List Shape
drawn_shapes scene drawn whole =
    shapes_of scene.proxies (length (names_of scene.proxies)) (drawn_steps scene drawn) (map (λ message. message.node) scene.sent) whole

-- the text of the picture of a scene with these steps and these shapes
unfoldable pub shaped_text : SceneView → List (List ℕ) → List Event → List Step → List Shape → List ℕ
shaped_text scene names drawn steps shapes =
    whole_text (frame_of steps (length scene.proxies) (length names)) scene
    (record { names = names; events = drawn; titles = scene.titles }) shapes

-- the text of the picture of a scene of which these events are drawn
unfoldable pub drawn_text : SceneView → List Event → Bool → List ℕ
drawn_text scene drawn whole =
    shaped_text scene (names_of scene.proxies) drawn (drawn_steps scene drawn) (drawn_shapes scene drawn whole)

-- the picture of a scene: of all its events, or of the first 2,000
abbrev pub picture_of : SceneView → List ℕ
picture_of scene =
    if nat_le (length scene.events) 2000 then drawn_text scene scene.events true else drawn_text scene (take 2000 scene.events) false
