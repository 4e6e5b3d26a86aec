-- Which events are refused, and why.
use Rattle.std.specs.Prelude.{◌≡◌, ℕ, ◌-◌, ◌^◌, ◌==◌, nat_lt, List, length, take, slice_get, Option, Some, None, if◌then◌else◌}
use Rattle.std.specs.Option.{option_map}
use Rattle.mr_text.specs.declared.request.Request.{Request}
use Rattle.mr_text.specs.declared.request.Request.TheVariants as request
use Rattle.mr_history.specs.declared.op_id.OpId.{OpId}
use Rattle.mr_history.specs.Places.{At}
use Rattle.mr_proxy.specs.declared.error.ProxyError.TheVariants.{NumbersSpent}
use Rattle.mr_proxy.specs.Answer.{AnswerView}
use Rattle.mr_proxy.specs.Issue.{refusal_of}
use Rattle.mr_proxy.specs.ProxyView.{ProxyView}
use Rattle.mr_proxy.specs.Transitions.{given_up_of}
use Rattle.mr_proxy.specs.declared.world_error.WorldError.{WorldError}
use Rattle.mr_proxy.specs.declared.world_error.WorldError.TheVariants.{NoSuchProxy, NoSuchNode, NoSuchMessage, IssueRefused, OutOfMemory, NoSuchOp}
use Rattle.mr_world.specs.declared.event.Event.{Event}
use Rattle.mr_world.specs.declared.event.Event.TheVariants.{Clock, Client, Deliver, Return, GiveUp, NodeRestart, ProxyRestart}
use Rattle.mr_world.specs.Steps.{WorldRun}
use Rattle.mr_world.specs.Positions.{node_number}
use Rattle.mr_world.specs.WorldView.{WorldView}

-- a list has nothing at this number
abbrev pub refused_past : WorldError → ℕ → ℕ → Option WorldError
refused_past refusal number count = if nat_lt number count then None else Some refusal

-- why a request is refused: no such proxy, or the proxy's own refusal; a quit is never refused
abbrev pub refused_request : Option ProxyView → Request → Option WorldError
refused_request None request = Some NoSuchProxy
refused_request (Some proxy) (request.Get keys) = option_map IssueRefused (refusal_of proxy)
refused_request (Some proxy) (request.Set key flags exptime block noreply) = option_map IssueRefused (refusal_of proxy)
refused_request (Some proxy) (request.Delete key noreply) = option_map IssueRefused (refusal_of proxy)
refused_request (Some proxy) request.Quit = None

-- the request isn't under way
abbrev pub refused_answer : Option AnswerView → Option WorldError
refused_answer None = Some NoSuchOp
refused_answer (Some answer) = None

-- also where there is no such proxy
abbrev pub refused_give_up : Option ProxyView → OpId → Option WorldError
refused_give_up None op = Some NoSuchOp
refused_give_up (Some proxy) op = refused_answer (given_up_of proxy op)

-- there is no such proxy, or its incarnations are spent
abbrev pub refused_restart : Option ProxyView → Option WorldError
refused_restart None = Some NoSuchProxy
refused_restart (Some proxy) = if proxy.incarnation == 2 ^ 64 - 1 then Some (IssueRefused NumbersSpent) else None

-- why an event is refused, memory aside
abbrev pub refusal_of_event : WorldView → Event → Option WorldError
refusal_of_event w (Clock proxy reading) = refused_past NoSuchProxy proxy (length w.proxies)
refusal_of_event w (Client proxy request) = refused_request (slice_get w.proxies proxy) request
refusal_of_event w (Deliver message now) = refused_past NoSuchMessage message (length w.sent)
refusal_of_event w (Return reply) = refused_past NoSuchMessage reply (length w.replies)
refusal_of_event w (GiveUp op) = refused_give_up (slice_get w.proxies op.proxy) op
refusal_of_event w (NodeRestart node) = refused_past NoSuchNode (node_number w.nodes node) (length w.nodes)
refusal_of_event w (ProxyRestart proxy) = refused_restart (slice_get w.proxies proxy)

-- these events take memory
abbrev pub TakesMemory : Event → Type 0
TakesMemory (Clock proxy reading) = ⊥
TakesMemory (Client proxy (request.Get keys)) = Unit {0}
TakesMemory (Client proxy (request.Set key flags exptime block noreply)) = Unit {0}
TakesMemory (Client proxy (request.Delete key noreply)) = Unit {0}
TakesMemory (Client proxy request.Quit) = ⊥
TakesMemory (Deliver message now) = Unit {0}
TakesMemory (Return reply) = Unit {0}
TakesMemory (GiveUp op) = Unit {0}
TakesMemory (NodeRestart node) = ⊥
TakesMemory (ProxyRestart proxy) = ⊥

-- the refusal; where there is none, want of memory
abbrev pub IsEventRefusal : Option WorldError → Event → WorldError → Type 0
IsEventRefusal None event e = TakesMemory event × (e ≡ OutOfMemory)
IsEventRefusal (Some refusal) event e = e ≡ refusal

-- the events before this one were played, and this one was refused
pub record IsStopped (old : WorldView) (events : List Event) (index : ℕ) (e : WorldError) (new : WorldView) : Type 0 where
  pub event : Event
  pub there : At events index event
  pub played : WorldRun old (take index events) new
  pub refused : IsEventRefusal (refusal_of_event new event) event e
