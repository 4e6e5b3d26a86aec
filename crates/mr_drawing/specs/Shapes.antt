-- The shapes of a picture.
use Rattle.std.specs.Prelude.{ℕ, zero, suc, ◌+◌, ◌-◌, ◌==◌, ◌&&◌, nat_lt, nat_le, not, List, [], ◌∷◌, ◌++◌, take, drop, length, position, unwrap_or, option_map, Bool, false, if◌then◌else◌}
use Rattle.std.specs.List.{list_any}
use Rattle.mr_history.specs.OpIds.{is_same_op}
use Rattle.mr_history.specs.declared.op_id.OpId.{OpId}
use Rattle.mr_phases.specs.Schedule.{phase_of, hop_of}
use Rattle.mr_world.specs.declared.setup.ProxySetup.{ProxySetup}
use Rattle.mr_drawing.specs.Places.{plus}
use Rattle.mr_drawing.specs.Rows.{level_of, base_of, height_of}
use Rattle.mr_drawing.specs.declared.shapes.Shape.{Shape}
use Rattle.mr_drawing.specs.declared.shapes.Shape.TheVariants as shape
use Rattle.mr_drawing.specs.declared.steps.Back.{Back}
use Rattle.mr_drawing.specs.declared.steps.Issue.{Issue}
use Rattle.mr_drawing.specs.declared.steps.Leg.{Leg}
use Rattle.mr_drawing.specs.declared.steps.Step.{Step}
use Rattle.mr_drawing.specs.declared.steps.Step.TheVariants as step

-- the step is a reading of this proxy's clock
abbrev pub is_clock_of : ℕ → Step → Bool
is_clock_of proxy (step.Clock other phase hop) = other == proxy
is_clock_of proxy other = false

-- the step ends the request, if that was issued before it: by an answer, by giving up or by a restart of its proxy
abbrev pub ends : OpId → Step → Bool
ends op (step.Back back) = back.answers && is_same_op back.leg.op op
ends op (step.GiveUp given) = is_same_op given op
ends op (step.ProxyRestart proxy) = proxy == op.proxy
ends op other = false

-- the message of this number arrives by the step
abbrev pub arrives : ℕ → Step → Bool
arrives message (step.Arrive reply leg) = leg.message == message
arrives message other = false

-- the reply of this number comes back by the step
abbrev pub comes_back : ℕ → Step → Bool
comes_back reply (step.Back back) = back.reply == reply
comes_back reply other = false

-- how many of these steps come before the proxy's clock shows another reading
abbrev pub until_clock : List Step → ℕ → ℕ
until_clock steps proxy = unwrap_or (position (is_clock_of proxy) steps) (length steps)

-- how many of these steps the request lasts, with the one that ends it
abbrev pub lasting : List Step → OpId → ℕ
lasting steps op = unwrap_or (option_map (λ count. plus count 1) (position (ends op) steps)) (length steps)

-- a message of this number is one of the request's
abbrev pub sends : Issue → ℕ → Bool
sends issue message = nat_le issue.first message && nat_lt (message - issue.first) issue.count

-- it is one of the request's, and no step brings it to its node
abbrev pub is_lost : List Step → Issue → ℕ → Bool
is_lost steps issue message = sends issue message && not (list_any (arrives message) steps)

-- the message of this number, to that node, if it is lost
abbrev pub lost_at : List Step → ℕ → Issue → ℕ → ℕ → List Shape
lost_at steps column issue message node =
    if is_lost steps issue message then shape.LostLeg column (level_of steps issue.op) node ∷ [] else []

-- the messages from this number on, to these nodes, that are lost
abbrev pub lost_from : List Step → ℕ → Issue → ℕ → List ℕ → List Shape
lost_from steps column issue message [] = []
lost_from steps column issue message (node ∷ nodes) = lost_at steps column issue message node ++ lost_from steps column issue (message + 1) nodes

-- a request has a bar, and each leg of it that is lost a line
abbrev pub issue_shapes : List Step → List ℕ → ℕ → Issue → List Shape
issue_shapes steps targets column issue =
    shape.Bar column (lasting (drop (column + 1) steps) issue.op) (level_of steps issue.op) issue.blamed
    ∷ lost_from steps column issue 0 targets

-- a leg has a line, which had come before or not
abbrev pub leg_shape : List Step → ℕ → Leg → Shape
leg_shape steps column leg =
    shape.Leg column (level_of steps leg.op) leg.node leg.kind leg.side (list_any (arrives leg.message) (take column steps))

-- its reply has one where it is lost
abbrev pub lost_reply : List Step → Bool → ℕ → ℕ → Leg → List Shape
lost_reply steps whole column reply leg =
    if whole && not (list_any (comes_back reply) steps) then shape.LostBack column leg.node ∷ [] else []

-- the shapes of a leg that arrived
abbrev pub arrival_shapes : List Step → Bool → ℕ → ℕ → Leg → List Shape
arrival_shapes steps whole column reply leg = leg_shape steps column leg ∷ lost_reply steps whole column reply leg

-- the shape of a reply that came back
abbrev pub back_shape : List Step → ℕ → Back → Shape
back_shape steps column back =
    shape.Back column (level_of steps back.leg.op) back.leg.node back.outcome (list_any (comes_back back.reply) (take column steps))

-- the one shape of a step that is neither an issue nor an arrival
abbrev pub single_shape : List Step → ℕ → Step → Shape
single_shape steps column (step.Clock proxy phase hop) =
    shape.Phase column (until_clock (drop (column + 1) steps) proxy) (base_of steps proxy) (height_of steps proxy) phase hop
single_shape steps column (step.Quit proxy) = shape.Quit column (base_of steps proxy)
single_shape steps column (step.Back back) = back_shape steps column back
single_shape steps column (step.GiveUp op) = shape.GivenUp column (level_of steps op)
single_shape steps column (step.NodeRestart node) = shape.NodeBreak column node
single_shape steps column (step.ProxyRestart proxy) = shape.ProxyBreak column (base_of steps proxy) (height_of steps proxy)
single_shape steps column step.Refused = shape.Refused column
single_shape steps column (step.Issue issue) = shape.Unplayed column
single_shape steps column (step.Arrive reply leg) = shape.Unplayed column
single_shape steps column step.Unplayed = shape.Unplayed column

-- the shapes of a step in its column; nothing is lost where the steps aren't the whole
abbrev pub shapes_of_step : List Step → List ℕ → Bool → ℕ → Step → List Shape
shapes_of_step steps targets whole column (step.Issue issue) = issue_shapes steps (if whole then targets else []) column issue
shapes_of_step steps targets whole column (step.Arrive reply leg) = arrival_shapes steps whole column reply leg
shapes_of_step steps targets whole column other = single_shape steps column other ∷ []

-- the column of a step, and its shapes
abbrev pub shapes_at : List Step → List ℕ → Bool → ℕ → Step → List Shape
shapes_at steps targets whole column step = shape.Column column ∷ shapes_of_step steps targets whole column step

-- the shapes of the steps from this column on, in order
abbrev pub shapes_from : List Step → List ℕ → Bool → ℕ → List Step → List Shape
shapes_from steps targets whole column [] = []
shapes_from steps targets whole column (step ∷ later) = shapes_at steps targets whole column step ++ shapes_from steps targets whole (column + 1) later

-- the lane of a proxy, in its first phase
abbrev pub lane_of : List Step → ℕ → ProxySetup → Shape
lane_of steps number proxy =
    shape.ProxyLane number (base_of steps number) (height_of steps number) (until_clock steps number)
    (phase_of proxy.schedule proxy.reading) (hop_of proxy.schedule proxy.reading)

-- the lanes of proxies, the first of this number
abbrev pub proxy_lanes : List Step → ℕ → List ProxySetup → List Shape
proxy_lanes steps number [] = []
proxy_lanes steps number (proxy ∷ proxies) = lane_of steps number proxy ∷ proxy_lanes steps (number + 1) proxies

-- the lanes of so many nodes
abbrev pub node_lanes : ℕ → List Shape
node_lanes zero = []
node_lanes (suc nodes) = node_lanes nodes ++ shape.NodeLane nodes ∷ []

-- the shapes of a picture: the lanes, and then those of each step
abbrev pub shapes_of : List ProxySetup → ℕ → List Step → List ℕ → Bool → List Shape
shapes_of proxies nodes steps targets whole = (proxy_lanes steps 0 proxies ++ node_lanes nodes) ++ shapes_from steps targets whole 0 steps
