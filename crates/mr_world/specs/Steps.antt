-- What each event does to a fleet: a record for each kind.
use Rattle.std.specs.Prelude.{◌≡◌, ◌≢◌, ℕ, ◌-◌, ◌^◌, ◌<◌, List, [], ◌∷◌, ◌++◌, length, map, slice_set, Some, None, if◌then◌else◌}
use Rattle.mr_text.specs.declared.request.Request.{Request}
use Rattle.mr_text.specs.declared.request.Request.TheVariants as request
use Rattle.mr_clock.specs.Readings.{readings_after}
use Rattle.mr_history.specs.declared.op_id.OpId.{OpId}
use Rattle.mr_history.specs.declared.entry.Author.TheVariants.{By}
use Rattle.mr_history.specs.declared.entry.Entry.{Entry}
use Rattle.mr_history.specs.declared.entry.Entry.TheVariants as entry
use Rattle.mr_history.specs.Places.{At}
use Rattle.mr_join.specs.declared.leg_reply.LegReply.{LegReply}
use Rattle.mr_pools.specs.Names.{name_at}
use Rattle.mr_pools.specs.Routing.{RoutingView}
use Rattle.mr_node.specs.declared.command.NodeCommand.{NodeCommand}
use Rattle.mr_node.specs.declared.command.NodeCommand.TheVariants.{Get, Set, Delete}
use Rattle.mr_node.specs.Output.{is_silent}
use Rattle.mr_node.specs.Recency.{CacheView, RecencyStep}
use Rattle.mr_proxy.specs.declared.sheet.LegSheet.{LegSheet}
use Rattle.mr_proxy.specs.declared.taken.Taken.{Taken}
use Rattle.mr_proxy.specs.declared.taken.Taken.TheVariants as taken
use Rattle.mr_proxy.specs.Answer.{AnswerView, reply_of}
use Rattle.mr_proxy.specs.Issue.{next_op, sheets_of, refusal_of, after_issue}
use Rattle.mr_proxy.specs.ProxyView.{ProxyView}
use Rattle.mr_proxy.specs.Sheets.{pool_at}
use Rattle.mr_proxy.specs.Sound.{HasLegs}
use Rattle.mr_proxy.specs.Transitions.{taken_of, after_take, given_up_of, after_give_up, after_restart}
use Rattle.mr_world.specs.declared.event.Event.{Event}
use Rattle.mr_world.specs.declared.event.Event.TheVariants.{Clock, Client, Deliver, Return, GiveUp, NodeRestart, ProxyRestart}
use Rattle.mr_world.specs.declared.message.Message.{Message}
use Rattle.mr_world.specs.declared.note.Note.{Note}
use Rattle.mr_world.specs.declared.note.Note.TheVariants.{Nothing, Issued, Performed, Waiting, Answered, Stranger}
use Rattle.mr_world.specs.declared.node.Node.{Node}
use Rattle.mr_world.specs.Positions.{node_number}
use Rattle.mr_world.specs.WorldView.{WorldView}

-- a leg goes to the node that its proxy's routing names
abbrev pub message_of : List Node → RoutingView → LegSheet → Message
message_of nodes routing sheet = record { sheet = sheet; node = node_number nodes (name_at routing (pool_at sheet) sheet.node) }

-- a proxy's clock shows another reading
pub record Ticks (old : WorldView) (number reading : ℕ) (note : Note) (new : WorldView) : Type 0 where
  pub home : number < length old.proxies
  pub tells : note ≡ Nothing
  pub becomes : new ≡ record old { readings = readings_after old.readings (record { proxy = number; reading = reading }) }

-- a quit does nothing
pub record Quits (old : WorldView) (number : ℕ) (note : Note) (new : WorldView) : Type 0 where
  pub home : number < length old.proxies
  pub tells : note ≡ Nothing
  pub becomes : new ≡ old

-- a proxy accepts a request at its clock's reading, and sends a message for each leg
pub record Issues (old : WorldView) (number : ℕ) (request : Request) (note : Note) (new : WorldView) : Type 0 where
  pub proxy : ProxyView
  pub reading : ℕ
  pub home : At old.proxies number proxy
  pub clock : At old.readings.standing number reading
  pub has_legs : HasLegs request
  pub accepted : refusal_of proxy ≡ None
  pub tells : note ≡ Issued (next_op proxy) (length old.sent) (length (sheets_of proxy reading request))
  pub becomes :
      new ≡ record old {
        proxies = slice_set old.proxies number (after_issue proxy reading request);
        sent = old.sent ++ map (message_of old.nodes proxy.routing) (sheets_of proxy reading request);
        history = old.history ++ entry.Issued (next_op proxy) number request ∷ [];
      }

-- a client's event: a request is issued, or a quit does nothing
abbrev pub ClientAsks : WorldView → ℕ → Request → Note → WorldView → Type 0
ClientAsks old number (request.Get keys) note new = Issues old number (request.Get keys) note new
ClientAsks old number (request.Set key flags exptime block noreply) note new = Issues old number (request.Set key flags exptime block noreply) note new
ClientAsks old number (request.Delete key noreply) note new = Issues old number (request.Delete key noreply) note new
ClientAsks old number request.Quit note new = Quits old number note new

-- what the history gains when a node performs a leg: a set is stored, a delete removed whether an item was there or not
abbrev pub performed : LegSheet → NodeCommand → List Entry
performed sheet (Get key) = []
performed sheet (Set key flags exptime block) = entry.Stored (By sheet.id.op) key flags block ∷ []
performed sheet (Delete key) = entry.Removed sheet.id.op sheet.side key ∷ []

-- the message's node performs it now, and its reply is sent
pub record Delivers (old : WorldView) (number now : ℕ) (note : Note) (new : WorldView) : Type 0 where
  pub message : Message
  pub node : Node
  pub reply : LegReply
  pub left : CacheView
  pub sent : At old.sent number message
  pub there : At old.nodes message.node node
  pub step : RecencyStep node.cache now message.sheet.command reply left
  pub tells : note ≡ Performed (length old.replies)
  pub becomes :
      new ≡ record old {
        nodes = slice_set old.nodes message.node (record { name = node.name; cache = left });
        replies = old.replies ++ record { message = number; reply = reply } ∷ [];
        history = old.history ++ performed message.sheet message.sheet.command;
      }

-- what the history gains when a request is answered: its answer, unless the client wants none
abbrev pub answered : AnswerView → List Entry
answered answer = if is_silent answer.request then [] else entry.Answered answer.op (reply_of answer) ∷ []

-- what it gains when a reply comes back
abbrev pub answered_by : Taken → List Entry
answered_by taken.Waiting = []
answered_by (taken.Answered answer) = answered answer
answered_by (taken.Stranger reply) = []

-- what is told of a reply that a proxy took
abbrev pub note_of : Taken → Note
note_of taken.Waiting = Waiting
note_of (taken.Answered answer) = Answered answer.op
note_of (taken.Stranger reply) = Stranger

-- the proxy that sent the message takes the reply; a stranger changes nothing
pub record Returns (old : WorldView) (number : ℕ) (note : Note) (new : WorldView) : Type 0 where
  pub message : Message
  pub proxy : ProxyView
  pub sender : ℕ
  pub from : ℕ
  pub reply : LegReply
  pub came : At old.replies number (record { message = from; reply = reply })
  pub sent : At old.sent from message
  pub sends : sender ≡ message.sheet.id.op.proxy
  pub home : At old.proxies sender proxy
  pub tells : note ≡ note_of (taken_of proxy message.sheet.id reply)
  pub becomes :
      new ≡ record old {
        proxies = slice_set old.proxies sender (after_take proxy message.sheet.id reply);
        history = old.history ++ answered_by (taken_of proxy message.sheet.id reply);
      }

-- a request leaves with what its legs came to so far
pub record GivesUp (old : WorldView) (op : OpId) (note : Note) (new : WorldView) : Type 0 where
  pub proxy : ProxyView
  pub answer : AnswerView
  pub home : At old.proxies op.proxy proxy
  pub gives : given_up_of proxy op ≡ Some answer
  pub tells : note ≡ Answered op
  pub becomes :
      new ≡ record old {
        proxies = slice_set old.proxies op.proxy (after_give_up proxy op);
        history = old.history ++ answered answer;
      }

-- the node of this name loses all that it holds
pub record Empties (old : WorldView) (name : List ℕ) (note : Note) (new : WorldView) : Type 0 where
  pub node : Node
  pub there : At old.nodes (node_number old.nodes name) node
  pub tells : note ≡ Nothing
  pub becomes :
      new ≡ record old {
        nodes = slice_set old.nodes (node_number old.nodes name) (record { name = node.name; cache = record node.cache { items = [] } });
      }

-- the proxy forgets its requests and begins its next incarnation; its clock stays
pub record Restarts (old : WorldView) (number : ℕ) (note : Note) (new : WorldView) : Type 0 where
  pub proxy : ProxyView
  pub home : At old.proxies number proxy
  pub not_last : proxy.incarnation ≢ 2 ^ 64 - 1
  pub tells : note ≡ Nothing
  pub becomes : new ≡ record old { proxies = slice_set old.proxies number (after_restart proxy) }

-- an accepted event, what is told of it, and the fleet after it
abbrev pub WorldStep : WorldView → Event → Note → WorldView → Type 0
WorldStep old (Clock proxy reading) note new = Ticks old proxy reading note new
WorldStep old (Client proxy request) note new = ClientAsks old proxy request note new
WorldStep old (Deliver message now) note new = Delivers old message now note new
WorldStep old (Return reply) note new = Returns old reply note new
WorldStep old (GiveUp op) note new = GivesUp old op note new
WorldStep old (NodeRestart node) note new = Empties old node note new
WorldStep old (ProxyRestart proxy) note new = Restarts old proxy note new

-- accepted events, one after the other
abbrev pub WorldRun : WorldView → List Event → WorldView → Type 0
WorldRun old [] new = new ≡ old
WorldRun old (event ∷ events) new = (middle : WorldView) × (note : Note) × WorldStep old event note middle × WorldRun middle events new
