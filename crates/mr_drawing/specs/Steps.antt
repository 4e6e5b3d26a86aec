-- What each event of a transcript is to a picture.
use Rattle.std.specs.Prelude.{ℕ, ◌+◌, ◌==◌, List, [], ◌∷◌, length, slice_get, Bool, true, false, if◌then◌else◌, Option, Some, None}
use Rattle.mr_join.specs.declared.leg_reply.LegReply.{LegReply}
use Rattle.mr_join.specs.declared.leg_reply.LegReply.TheVariants as reply
use Rattle.mr_node.specs.declared.command.NodeCommand.{NodeCommand}
use Rattle.mr_node.specs.declared.command.NodeCommand.TheVariants as command
use Rattle.mr_phases.specs.Schedule.{phase_of, hop_of}
use Rattle.mr_phases.specs.declared.side.RequestKind.{RequestKind}
use Rattle.mr_phases.specs.declared.side.RequestKind.TheVariants as kind
use Rattle.mr_world.specs.declared.event.Event.{Event}
use Rattle.mr_world.specs.declared.event.Event.TheVariants as event
use Rattle.mr_world.specs.declared.message.Message.{Message}
use Rattle.mr_world.specs.declared.message.Delivery.{Delivery}
use Rattle.mr_world.specs.declared.note.Note.{Note}
use Rattle.mr_world.specs.declared.note.Note.TheVariants as note
use Rattle.mr_world.specs.declared.setup.ProxySetup.{ProxySetup}
use Rattle.mr_drawing.specs.Blame.{is_blamed}
use Rattle.mr_drawing.specs.Names.{node_lane}
use Rattle.mr_drawing.specs.declared.blame.Blame.{Blame}
use Rattle.mr_drawing.specs.declared.steps.Leg.{Leg}
use Rattle.mr_drawing.specs.declared.steps.Outcome.{Outcome}
use Rattle.mr_drawing.specs.declared.steps.Outcome.TheVariants.{Hit, Miss, Stored, Deleted, Absent, Failed}
use Rattle.mr_drawing.specs.declared.steps.Reach.{Reach}
use Rattle.mr_drawing.specs.declared.steps.Step.{Step}
use Rattle.mr_drawing.specs.declared.steps.Step.TheVariants.{Clock, Quit, Issue, Arrive, Back, GiveUp, NodeRestart, ProxyRestart, Refused, Unplayed}

-- what steps are made of, beside the events themselves
pub record ReachView : Type 0 where
  pub proxies : List ProxySetup
  -- the names of the nodes by their lanes
  pub names : List (List ℕ)
  pub sent : List Message
  pub replies : List Delivery
  pub blame : Blame

-- what is reached by references
abbrev pub reach_view : Reach → ReachView
reach_view reach =
    record { proxies = reach.proxies.now; names = reach.names.now; sent = reach.sent.now; replies = reach.replies.now; blame = reach.blame }

-- what a command tells a node to do
abbrev pub kind_of : NodeCommand → RequestKind
kind_of (command.Get key) = kind.Get
kind_of (command.Set key flags exptime block) = kind.Set
kind_of (command.Delete key) = kind.Delete

-- what a reply says
abbrev pub outcome_of : LegReply → Outcome
outcome_of (reply.Hit flags block) = Hit
outcome_of reply.Miss = Miss
outcome_of reply.Stored = Stored
outcome_of reply.Deleted = Deleted
outcome_of reply.NotFound = Absent
outcome_of (reply.Failed cause) = Failed

-- the leg of the message of this number
abbrev pub leg_of : ℕ → Message → Leg
leg_of number message =
    record {
      message = number;
      op = message.sheet.id.op;
      node = message.node;
      kind = kind_of message.sheet.command;
      side = message.sheet.side;
    }

-- a clock's new reading stands in a phase of the proxy's schedule
abbrev pub clock_of : ℕ → ℕ → Option ProxySetup → Step
clock_of proxy reading (Some setup) = Clock proxy (phase_of setup.schedule reading) (hop_of setup.schedule reading)
clock_of proxy reading None = Unplayed

-- a client's request was issued, or is a quit
abbrev pub issue_of : Blame → ℕ → Note → Step
issue_of blame proxy (note.Issued op first count) = Issue (record { op = op; first = first; count = count; blamed = is_blamed blame op })
issue_of blame proxy other = Quit proxy

-- a message reached its node, which performed it
abbrev pub arrival_of : ℕ → Option Message → Note → Step
arrival_of number (Some message) (note.Performed reply) = Arrive reply (leg_of number message)
arrival_of number _ _ = Unplayed

-- the request was answered then
abbrev pub is_answer : Note → Bool
is_answer (note.Answered op) = true
is_answer other = false

-- a reply to a message
abbrev pub way_back : ℕ → Delivery → Note → Option Message → Step
way_back reply delivery note (Some message) =
    Back (record { reply = reply; leg = leg_of delivery.message message; outcome = outcome_of delivery.reply; answers = is_answer note })
way_back reply delivery note None = Unplayed

-- a reply that came back
abbrev pub back_of : List Message → ℕ → Note → Option Delivery → Step
back_of sent reply note (Some delivery) = way_back reply delivery note (slice_get sent delivery.message)
back_of sent reply note None = Unplayed

-- an event of which this became
abbrev pub step_of : ReachView → Event → Note → Step
step_of reach (event.Clock proxy reading) note = clock_of proxy reading (slice_get reach.proxies proxy)
step_of reach (event.Client proxy request) note = issue_of reach.blame proxy note
step_of reach (event.Deliver message now) note = arrival_of message (slice_get reach.sent message) note
step_of reach (event.Return reply) note = back_of reach.sent reply note (slice_get reach.replies reply)
step_of reach (event.GiveUp op) note = GiveUp op
step_of reach (event.NodeRestart node) note = NodeRestart (node_lane reach.names node)
step_of reach (event.ProxyRestart proxy) note = ProxyRestart proxy

-- an event of which nothing became: it was refused, or stands behind one that was
abbrev pub unplayed : ℕ → ℕ → Step
unplayed notes place = if place == notes then Refused else Unplayed

-- an event with what became of it, if anything did
abbrev pub step_with : ReachView → Event → ℕ → ℕ → Option Note → Step
step_with reach event notes place (Some note) = step_of reach event note
step_with reach event notes place None = unplayed notes place

-- the event at this place
abbrev pub step_at : ReachView → Event → List Note → ℕ → Step
step_at reach event notes place = step_with reach event (length notes) place (slice_get notes place)

-- the events from this place on, in order
abbrev pub steps_from : ReachView → List Note → ℕ → List Event → List Step
steps_from reach notes place [] = []
steps_from reach notes place (event ∷ events) = step_at reach event notes place ∷ steps_from reach notes (place + 1) events
