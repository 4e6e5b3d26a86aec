-- The core with its clients, and what happens to both.
use Rattle.std.specs.Prelude.{ℕ, List, [], ◌∷◌, ◌++◌, Option, Some, None, slice_get, slice_set}
use Rattle.mr_text.specs.declared.cause.Cause.{Cause}
use Rattle.mr_text.specs.declared.reply.Reply.{Reply}
use Rattle.mr_proxy.specs.Answer.{AnswerView}
use Rattle.mr_proxy.specs.Issue.{next_op}
use Rattle.mr_proxy.specs.ProxyView.{ProxyView}
use Rattle.mr_proxy.specs.Replay.{after, answer_at}
use Rattle.mr_proxy.specs.declared.step.Step.{Step}
use Rattle.mr_proxy.specs.declared.step.Step.TheVariants.{Issue, Take, GiveUp}
use Rattle.mr_loop.specs.declared.client.Client.{Client}
use Rattle.mr_loop.specs.declared.counts.LoopCounts.{LoopCounts}
use Rattle.mr_loop.specs.declared.turns.Turn.{Turn}
use Rattle.mr_loop.specs.declared.turns.Turn.TheVariants.{Waits, Says}
use Rattle.mr_loop.specs.Counts.{no_counts, counted_if, with_denied}
use Rattle.mr_loop.specs.Turns.{noted, flushed}

-- the core and its clients
pub record FrontView : Type 0 where
  pub core : ProxyView
  -- by their places
  pub clients : List Client
  -- the places of the clients to whose requests the core gave an answer, as often as it did, since that was asked
  pub touched : List ℕ
  -- what came of requests
  pub counts : LoopCounts

-- a core that has no clients yet
abbrev pub fresh_front : ProxyView → FrontView
fresh_front core = record { core = core; clients = []; touched = []; counts = no_counts }

-- what happens: the core makes a step that is of a request of this client, or a step of which no client is told; a request
-- isn't begun for this cause; a client is told something in its turn; a client is told all that is there for its first requests
pub data Event : Type 0 where
  Does : (client : ℕ) (step : Step) → Event
  Alone : (step : Step) → Event
  Denies : (cause : Cause) → Event
  Tells : (client : ℕ) (reply : Reply) → Event
  Flushes : (client : ℕ) → Event

-- the client changes so at its place, if there is one
abbrev pub changed_in : Option Client → ℕ → (Client → Client) → List Client → List Client
changed_in None place change clients = clients
changed_in (Some client) place change clients = slice_set clients place (change client)

-- the client of a place changes so, if there is one
abbrev pub changed : ℕ → (Client → Client) → List Client → List Client
changed place change clients = changed_in (slice_get clients place) place change clients

-- a client with one more turn
abbrev pub with_turn : Turn → Client → Client
with_turn turn client = record client { turns = client.turns ++ turn ∷ [] }

-- a client with an answer noted at its turn
abbrev pub with_answer : AnswerView → Client → Client
with_answer answer client = record client { turns = noted answer client.turns }

-- a client who asks waits its turn
abbrev pub queued : ℕ → Step → ProxyView → List Client → List Client
queued place (Issue reading request) core clients = changed place (with_turn (Waits (next_op core))) clients
queued place (Take back) core clients = clients
queued place (GiveUp op) core clients = clients

-- the answer, if there is one, stands at its turn
abbrev pub answered : ℕ → Option AnswerView → List Client → List Client
answered place None clients = clients
answered place (Some answer) clients = changed place (with_answer answer) clients

-- the client is among those touched, where there is an answer
abbrev pub touched_by : ℕ → Option AnswerView → List ℕ → List ℕ
touched_by place None touched = touched
touched_by place (Some answer) touched = touched ++ place ∷ []

-- what an event leaves
abbrev pub after_event : Event → FrontView → FrontView
after_event (Event.Does client step) f = record {
  core = after f.core step;
  clients = answered client (answer_at f.core step) (queued client step f.core f.clients);
  touched = touched_by client (answer_at f.core step) f.touched;
  counts = counted_if f.core.schedule (answer_at f.core step) f.counts;
}
after_event (Event.Alone step) f = record f { core = after f.core step }
after_event (Event.Denies cause) f = record f { counts = with_denied cause f.counts }
after_event (Event.Tells client reply) f = record f { clients = changed client (with_turn (Says reply)) f.clients }
after_event (Event.Flushes client) f = record f { clients = changed client flushed f.clients }

-- events one after the other
abbrev pub after_all : List Event → FrontView → FrontView
after_all [] f = f
after_all (event ∷ events) f = after_all events (after_event event f)

-- the step that the core makes at an event, if it makes one
abbrev pub step_of : Event → List Step
step_of (Event.Does client step) = step ∷ []
step_of (Event.Alone step) = step ∷ []
step_of (Event.Denies cause) = []
step_of (Event.Tells client reply) = []
step_of (Event.Flushes client) = []

-- the steps of the core, in order
abbrev pub steps_of : List Event → List Step
steps_of [] = []
steps_of (event ∷ events) = step_of event ++ steps_of events
