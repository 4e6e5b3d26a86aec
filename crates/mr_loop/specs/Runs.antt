-- What holds over whole runs: whose reply each reply of a link is, and what a client is told.
use Rattle.std.specs.Prelude.{◌≡◌, ℕ, ◌==◌, List, [], ◌∷◌, ◌++◌, map, Some, option_to_list, slice_get, unwrap_or, if◌then◌else◌}
use Rattle.std.specs.List.{flat_map, AllByRecursion}
use Rattle.mr_text.specs.declared.reply.Reply.{Reply}
use Rattle.mr_history.specs.declared.op_id.OpId.{OpId}
use Rattle.mr_proxy.specs.Answer.{AnswerView}
use Rattle.mr_proxy.specs.Issue.{next_op}
use Rattle.mr_proxy.specs.ProxyView.{ProxyView}
use Rattle.mr_proxy.specs.Replay.{replay, answer_at}
use Rattle.mr_proxy.specs.declared.step.Step.TheVariants.{Issue, Take, GiveUp}
use Rattle.mr_loop.specs.declared.client.Client.{Client}
use Rattle.mr_loop.specs.declared.sent_legs.SentLeg.{SentLeg}
use Rattle.mr_loop.specs.declared.turns.Turn.{Turn}
use Rattle.mr_loop.specs.declared.turns.Turn.TheVariants.{Waits, Answered, Says}
use Rattle.mr_loop.specs.Events.{FrontView, Event, after_event, after_all, steps_of}
use Rattle.mr_loop.specs.Returning.{TakesAll}
use Rattle.mr_loop.specs.Turns.{text_of_turn, fresh_client}

-- what goes over a link since it came up: a leg there, or replies back
pub data Crossing : Type 0 where
  Went : SentLeg → Crossing
  Came : List Reply → Crossing

-- the legs that went
abbrev pub sent_in : List Crossing → List SentLeg
sent_in [] = []
sent_in (Crossing.Went sent ∷ crossings) = sent ∷ sent_in crossings
sent_in (Crossing.Came replies ∷ crossings) = sent_in crossings

-- the replies that came
abbrev pub replies_in : List Crossing → List Reply
replies_in [] = []
replies_in (Crossing.Went sent ∷ crossings) = replies_in crossings
replies_in (Crossing.Came replies ∷ crossings) = replies ++ replies_in crossings

-- a leg goes behind those that have no reply, and a reply is that of the first of them: what happens, and what is left
abbrev pub Crosses : List Crossing → List SentLeg → List Event → List SentLeg → Type 0
Crosses [] legs events left = (events ≡ []) × (left ≡ legs)
Crosses (Crossing.Went sent ∷ crossings) legs events left = Crosses crossings (legs ++ sent ∷ []) events left
Crosses (Crossing.Came replies ∷ crossings) legs events left =
    (now : List Event) × (between : List SentLeg) × (later : List Event)
    × TakesAll legs replies now between × (events ≡ now ++ later) × Crosses crossings between later left

-- the k-th reply of a link is that of the k-th leg that went over it since it came up
abbrev pub RepliesAreOfTheirLegs : Type 0
RepliesAreOfTheirLegs = (crossings : List Crossing) (events : List Event) (left : List SentLeg)
    → Crosses crossings [] events left → TakesAll (sent_in crossings) (replies_in crossings) events left

-- the core after all that happened is what its steps made of it
abbrev pub StepsMakeTheCore : Type 0
StepsMakeTheCore = (events : List Event) (f : FrontView) → (after_all events f).core ≡ replay f.core (steps_of events)

-- what a client is to be told: the answer to a request of it, or this
pub data Due : Type 0 where
  Op : OpId → Due
  Line : Reply → Due

-- what a client is to be told at a turn
abbrev pub due_of_turn : Turn → Due
due_of_turn (Waits op) = Due.Op op
due_of_turn (Answered answer) = Due.Op answer.op
due_of_turn (Says reply) = Due.Line reply

-- what becomes due to the client of a place by an event
abbrev pub due_now : ℕ → Event → ProxyView → List Due
due_now place (Event.Does client (Issue reading request)) core = if client == place then Due.Op (next_op core) ∷ [] else []
due_now place (Event.Does client (Take back)) core = []
due_now place (Event.Does client (GiveUp op)) core = []
due_now place (Event.Alone step) core = []
due_now place (Event.Denies cause) core = []
due_now place (Event.Tells client reply) core = if client == place then Due.Line reply ∷ [] else []
due_now place (Event.Flushes client) core = []

-- the answer that the core gives by an event
abbrev pub given_now : Event → ProxyView → List AnswerView
given_now (Event.Does client step) core = option_to_list (answer_at core step)
given_now (Event.Alone step) core = []
given_now (Event.Denies cause) core = []
given_now (Event.Tells client reply) core = []
given_now (Event.Flushes client) core = []

-- all that becomes due to the client of a place, in order
abbrev pub due : ℕ → List Event → FrontView → List Due
due place [] f = []
due place (event ∷ events) f = due_now place event f.core ++ due place events (after_event event f)

-- all answers that the core gives, in order
abbrev pub given : List Event → FrontView → List AnswerView
given [] f = []
given (event ∷ events) f = given_now event f.core ++ given events (after_event event f)

-- the element stands in the list
pub record Has {X : Type 0} (list : List X) (element : X) : Type 0 where
  pub place : ℕ
  pub there : slice_get list place ≡ Some element

-- what was told is an answer that the core gave, or was to be told anyhow
abbrev pub WasGiven : List AnswerView → Turn → Type 0
WasGiven answers (Waits op) = ⊥
WasGiven answers (Answered answer) = Has answers answer
WasGiven answers (Says reply) = Unit {0}

-- the text of a turn, or no text while its request is under way
abbrev pub told_text : Turn → List ℕ
told_text turn = unwrap_or (text_of_turn turn) []

-- A client was told what it was first to be told, in the order in which it asked; the rest waits.
pub record IsTold (dues : List Due) (answers : List AnswerView) (client : Client) : Type 0 where
  pub told : List Turn
  pub text : client.out ≡ flat_map told_text told
  pub in_order : dues ≡ map due_of_turn told ++ map due_of_turn client.turns
  pub by_core : AllByRecursion (WasGiven answers) told

-- whatever happens to a client that begins fresh, it is told the answers to its requests in order, and nothing else
abbrev pub ClientsAreToldInOrder : Type 0
ClientsAreToldInOrder =
    (events : List Event) (f : FrontView) (place : ℕ) (client : Client)
    → slice_get f.clients place ≡ Some fresh_client → slice_get (after_all events f).clients place ≡ Some client
    → IsTold (due place events f) (given events f) client
