-- A fleet that streams stand for: the same cores and the same nodes, and on each connection its legs, delivered or on their way.
use Rattle.std.proofs.Common.{◌≡◌, ℕ, inl, inr, Bool, true, false, List, [], ◌∷◌, ◌++◌, map, Option, Some, None, refl}
use Rattle.std.specs.List.{AllByRecursion}
use Rattle.mr_clock.specs.Readings.{ReadingsView, Tick}
use Rattle.mr_history.specs.Places.{At}
use Rattle.mr_history.specs.declared.entry.Entry.{Entry}
use Rattle.std.specs.Prelude.{Contains}
use Rattle.mr_text.specs.Valid.{IsValidRequest}
use Rattle.mr_text.specs.Key.{FitLine}
use Rattle.mr_text.specs.declared.request.Request.{Request}
use Rattle.mr_text.specs.declared.request.Request.TheVariants.{Get, Set, Delete, Quit}
use Rattle.mr_node.specs.declared.command.NodeCommand.{NodeCommand}
use Rattle.mr_proxy.specs.NodeRequests.{request_for}
use Rattle.mr_proxy.specs.ProxyView.{ProxyView}
use Rattle.mr_proxy.specs.Sheets.{commands_of}
use Rattle.mr_proxy.specs.Sound.{HasLegs}
use Rattle.mr_loop.specs.declared.inbox.Inbox.{Inbox}
use Rattle.mr_loop.specs.declared.inbox.Input.{Input}
use Rattle.mr_loop.specs.declared.inbox.Input.TheVariants.{Asks, Refused}
use Rattle.mr_loop.specs.LoopView.{LoopView}
use Rattle.mr_loop.specs.declared.link.Link.{Link}
use Rattle.mr_loop.specs.declared.node.client.NodeClient.{NodeClient}
use Rattle.mr_join.specs.declared.leg_reply.LegReply.{LegReply}
use Rattle.mr_proxy.specs.declared.sheet.LegSheet.{LegSheet}
use Rattle.mr_loop.specs.Links.{legs_of}
use Rattle.mr_loop.specs.declared.sent_legs.SentLeg.{SentLeg}
use Rattle.mr_loop.specs.node.Serving.{to_tell}
use Rattle.mr_world.specs.Headline.{IsPlan}
use Rattle.mr_world.specs.Positions.{node_number}
use Rattle.mr_world.specs.WorldView.{WorldView}
use Rattle.mr_world.specs.declared.message.Delivery.{Delivery}
use Rattle.mr_world.specs.declared.message.Message.{Message}
use Rattle.mr_world.specs.declared.node.Node.{Node}
use Rattle.mr_streams.specs.Fleet.{FleetEvent, FleetRun, ticks_of}
use Rattle.mr_streams.specs.Flows.{AreReplies, AreRequests, IsGoing, IsMessage, AreOf, WereDelivered}
use Rattle.mr_streams.specs.Kept.{AreTellable}
use Rattle.mr_streams.specs.OneNode.{IsBusy}
use Rattle.mr_streams.specs.OneProxy.{AreKnown}
use Rattle.mr_streams.specs.Refines.{Tells}
use Rattle.mr_streams.specs.Steps.{names_of}
use Rattle.mr_streams.specs.StreamsView.{StreamsView, NodeEnd, Connection, cores_of, world_nodes}
use Rattle.mr_streams.proofs.Delivering.{replies_still}
use Rattle.mr_streams.proofs.Lists.{at_left}

-- the links of each proxy
abbrev pub lines_of : List LoopView → List (List Link)
lines_of loops = map (λ (loop : LoopView). loop.links) loops

-- the clients of each node
abbrev pub seats_of : List NodeEnd → List (List NodeClient)
seats_of nodes = map (λ (node : NodeEnd). node.loop.clients) nodes

-- the proxy's end of a connection is there: its link is up, with these legs, these bytes kept and these to be written
pub record IsHere (lines : List (List Link)) (c : Connection) (legs : List SentLeg) (front out : List ℕ) : Type 0 where
  pub links : List Link
  pub link : Link
  pub home : At lines c.proxy links
  pub there : At links c.link link
  pub is_up : link.is_up ≡ true
  pub legs_are : link.legs ≡ legs
  pub kept : link.reader.kept ≡ front
  pub out_is : link.out ≡ out

-- a client reads on while it isn't deaf, unless its input ended, behind which nothing comes
pub record ReadsOn (client : NodeClient) (c : Connection) : Type 0 where
  pub not_closed : client.inbox.reader.closed ≡ false
  pub ended : client.inbox.reader.ended ≡ true → (c.is_left ≡ true) × (c.forth ≡ [])

-- the node's end of a connection is there: a client with these bytes kept and these to be told
pub record IsOpen (seats : List (List NodeClient)) (c : Connection) (place : ℕ) (kept tail : List ℕ) (is_deaf : Bool) : Type 0 where
  pub clients : List NodeClient
  pub client : NodeClient
  pub home : At seats c.node clients
  pub there : At clients place client
  pub deaf : client.inbox.is_done ≡ is_deaf
  pub kept_is : client.inbox.reader.kept ≡ kept
  pub tail_is : to_tell client ≡ tail
  pub reads_on : is_deaf ≡ false → ReadsOn client c

-- what is on its way over a connection: the legs whose replies are, and those whose requests are. Where an end of it is gone some bytes
-- stand for those that were there.
pub record FlowsOf (messages : List Message) (deliveries : List Delivery) (lines : List (List Link)) (seats : List (List NodeClient)) (c : Connection) : Type 0 where
  pub returning : List SentLeg
  pub going : List SentLeg
  pub front : List ℕ
  pub tail : List ℕ
  pub kept : List ℕ
  pub out : List ℕ
  pub is_deaf : Bool
  pub busy : IsBusy messages deliveries c.node is_deaf returning going (front ++ (c.back ++ tail)) (kept ++ (c.forth ++ out))
  pub here : c.is_left ≡ false → IsHere lines c (returning ++ going) front out
  pub opens : (place : ℕ) → c.place ≡ Some place → IsOpen seats c place kept tail is_deaf

-- the node of a connection is the one that the proxy's routing names for its link
pub record IsAtHome (cores : List ProxyView) (nodes : List Node) (c : Connection) : Type 0 where
  pub core : ProxyView
  pub name : List ℕ
  pub home : At cores c.proxy core
  pub named : At (names_of core.routing) c.link name
  pub numbered : c.node ≡ node_number nodes name

-- a fleet of these cores, links, nodes, connections and this history
pub record Mirrors (w : WorldView) (readings : ReadingsView) (cores : List ProxyView) (lines : List (List Link)) (nodes : List Node) (seats : List (List NodeClient))
    (connections : List Connection) (history : List Entry) : Type 0 where
  pub readings_are : w.readings ≡ readings
  pub cores_are : w.proxies ≡ cores
  pub nodes_are : w.nodes ≡ nodes
  pub tells : Tells w.history history
  pub tellable : (number : ℕ) (node : Node) → At nodes number node → AreTellable node.cache.items
  pub named : (number : ℕ) (node : Node) → At nodes number node → node_number nodes node.name ≡ number
  pub numbers : (number : ℕ) (core : ProxyView) → At cores number core → core.number ≡ number
  pub plans : (number : ℕ) (core : ProxyView) → At cores number core → IsPlan core.routing core.schedule
  pub own : (number place : ℕ) (links : List Link) (link : Link) → At lines number links → At links place link → AreOf number link.legs
  pub flows : (number : ℕ) (c : Connection) → At connections number c → FlowsOf w.sent w.replies lines seats c
  pub homes : (number : ℕ) (c : Connection) → At connections number c → IsAtHome cores nodes c
  pub one_link : (i j : ℕ) (c d : Connection) → At connections i c → At connections j d → c.is_left ≡ false → d.is_left ≡ false
      → c.proxy ≡ d.proxy → c.link ≡ d.link → i ≡ j
  pub one_place : (i j place : ℕ) (c d : Connection) → At connections i c → At connections j d → c.place ≡ Some place → d.place ≡ Some place → c.node ≡ d.node → i ≡ j

-- the keys of a get fit a line
abbrev pub FitsLine : Request → Type 0
FitsLine (Get keys) = FitLine keys
FitsLine (Set key flags exptime block noreply) = Unit {0}
FitsLine (Delete key noreply) = Unit {0}
FitsLine Quit = Unit {0}

-- a request that has legs, the text of each of which can be read, and those of several gets together
pub record IsLegal (request : Request) : Type 0 where
  pub has_legs : HasLegs request
  pub fits : FitsLine request
  pub valid : (command : NodeCommand) → Contains (commands_of request) command → IsValidRequest (request_for command)

-- what was held back is such a request
abbrev pub IsLegalInput : Option Input → Type 0
IsLegalInput None = Unit {0}
IsLegalInput (Some (Asks request)) = IsLegal request
IsLegalInput (Some (Refused refusal)) = Unit {0}

-- so it is with each client
abbrev pub AreLegal : List Inbox → Type 0
AreLegal inboxes = (place : ℕ) (inbox : Inbox) → At inboxes place inbox → IsLegalInput inbox.held

-- a fleet that streams stand for
pub record MirrorsStreams (w : WorldView) (s : StreamsView) : Type 0 where
  pub mirrors : Mirrors w s.readings (cores_of s.loops) (lines_of s.loops) (world_nodes s.nodes) (seats_of s.nodes) s.connections s.history
  pub known : (number : ℕ) (loop : LoopView) → At s.loops number loop → AreKnown w.history loop.front.clients
  pub legal : (number : ℕ) (loop : LoopView) → At s.loops number loop → AreLegal loop.inboxes

messages_still : (messages more : List Message) (node : ℕ) (sheets : List LegSheet) → AllByRecursion (IsMessage messages node) sheets → AllByRecursion (IsMessage (messages ++ more) node) sheets
messages_still messages more node [] h = h
messages_still messages more node (sheet ∷ sheets) h = (record { number = h.0.number; there = at_left more h.0.there }, messages_still messages more node sheets h.1)

-- what is going stays so while more messages are sent
pub going_still : (messages more : List Message) (node : ℕ) (legs : List SentLeg) → AllByRecursion (IsGoing messages node) legs → AllByRecursion (IsGoing (messages ++ more) node) legs
going_still messages more node [] h = h
going_still messages more node (sent ∷ legs) h = (
  record { there = messages_still messages more node (legs_of sent) h.0.there; gets = h.0.gets; valid = h.0.valid },
  going_still messages more node legs h.1,
)

requests_still : (messages more : List Message) (node : ℕ) (legs : List SentLeg) (bytes : List ℕ) → AreRequests messages node legs bytes → AreRequests (messages ++ more) node legs bytes
requests_still messages more node legs bytes h = record { texts = h.texts; sent = going_still messages more node legs h.sent }

delivered_later : (messages more : List Message) (deliveries : List Delivery) (sheets : List LegSheet) (said : List LegReply) → WereDelivered messages deliveries sheets said
    → WereDelivered (messages ++ more) deliveries sheets said
delivered_later messages more deliveries [] said h = h
delivered_later messages more deliveries (sheet ∷ sheets) [] h = h
delivered_later messages more deliveries (sheet ∷ sheets) (one ∷ said) h = (
  (let d = h.0 in record { message = d.message; number = d.number; from = d.from; there = at_left more d.there; of_leg = d.of_leg; replied = d.replied }),
  delivered_later messages more deliveries sheets said h.1,
)

answered_later : (messages more : List Message) (deliveries : List Delivery) (legs : List SentLeg) (bytes : List ℕ) → AreReplies messages deliveries legs bytes
    → AreReplies (messages ++ more) deliveries legs bytes
answered_later messages more deliveries [] bytes h = h
answered_later messages more deliveries (sent ∷ legs) bytes h = (
  h.0,
  h.1,
  elim h.2 [
    | inl d ↦ inl (record { said = d.said; answers = d.answers; delivered = delivered_later messages more deliveries (legs_of sent) d.said d.delivered })
    | inr e ↦ inr e
  ],
  h.3,
  h.4,
  answered_later messages more deliveries legs h.1 h.5,
)

-- messages and deliveries come behind the others
pub busy_still : (messages more : List Message) (deliveries later : List Delivery) (node : ℕ) (is_deaf : Bool) (returning going : List SentLeg) (back forth : List ℕ)
    → IsBusy messages deliveries node is_deaf returning going back forth → IsBusy (messages ++ more) (deliveries ++ later) node is_deaf returning going back forth
busy_still messages more deliveries later node is_deaf returning going back forth h = record {
  replies = answered_later messages more (deliveries ++ later) returning back (replies_still messages deliveries later returning back h.replies);
  requests = λ hears. requests_still messages more node going forth (h.requests hears);
}

pub flows_still : (messages more : List Message) (deliveries later : List Delivery) (lines : List (List Link)) (seats : List (List NodeClient)) (c : Connection)
    → FlowsOf messages deliveries lines seats c → FlowsOf (messages ++ more) (deliveries ++ later) lines seats c
flows_still messages more deliveries later lines seats c h = record {
  returning = h.returning;
  going = h.going;
  front = h.front;
  tail = h.tail;
  kept = h.kept;
  out = h.out;
  is_deaf = h.is_deaf;
  busy = busy_still messages more deliveries later c.node h.is_deaf h.returning h.going (h.front ++ (c.back ++ h.tail)) (h.kept ++ (c.forth ++ h.out)) h.busy;
  here = h.here;
  opens = h.opens;
}

-- the links change, but not the one that this connection goes over
pub flows_on_lines : (messages : List Message) (deliveries : List Delivery) (lines lines' : List (List Link)) (seats : List (List NodeClient)) (c : Connection)
    → ((legs : List SentLeg) (front out : List ℕ) → IsHere lines c legs front out → IsHere lines' c legs front out)
    → FlowsOf messages deliveries lines seats c → FlowsOf messages deliveries lines' seats c
flows_on_lines messages deliveries lines lines' seats c same h = record {
  returning = h.returning;
  going = h.going;
  front = h.front;
  tail = h.tail;
  kept = h.kept;
  out = h.out;
  is_deaf = h.is_deaf;
  busy = h.busy;
  here = λ hears. same (h.returning ++ h.going) h.front h.out (h.here hears);
  opens = h.opens;
}

-- the clients of nodes change, but not the one of this connection
pub flows_on_seats : (messages : List Message) (deliveries : List Delivery) (lines : List (List Link)) (seats seats' : List (List NodeClient)) (c : Connection)
    → ((place : ℕ) (kept tail : List ℕ) (is_deaf : Bool) → c.place ≡ Some place → IsOpen seats c place kept tail is_deaf → IsOpen seats' c place kept tail is_deaf)
    → FlowsOf messages deliveries lines seats c → FlowsOf messages deliveries lines seats' c
flows_on_seats messages deliveries lines seats seats' c same h = record {
  returning = h.returning;
  going = h.going;
  front = h.front;
  tail = h.tail;
  kept = h.kept;
  out = h.out;
  is_deaf = h.is_deaf;
  busy = h.busy;
  here = h.here;
  opens = λ place e. same place h.kept h.tail h.is_deaf e (h.opens place e);
}

-- the proxy's end of a connection is gone
pub flows_left : (messages : List Message) (deliveries : List Delivery) (lines lines' : List (List Link)) (seats : List (List NodeClient)) (c : Connection)
    → FlowsOf messages deliveries lines seats c → FlowsOf messages deliveries lines' seats (record c { is_left = true })
flows_left messages deliveries lines lines' seats c h = record {
  returning = h.returning;
  going = h.going;
  front = h.front;
  tail = h.tail;
  kept = h.kept;
  out = h.out;
  is_deaf = h.is_deaf;
  busy = h.busy;
  here = λ e. absurd (let no : true ≡ false = e in cc);
  opens = λ place e. (let o = h.opens place e in record {
    clients = o.clients;
    client = o.client;
    home = o.home;
    there = o.there;
    deaf = o.deaf;
    kept_is = o.kept_is;
    tail_is = o.tail_is;
    reads_on = λ hears. record { not_closed = (o.reads_on hears).not_closed; ended = λ ends. (refl, ((o.reads_on hears).ended ends).1) };
  });
}

-- the fleet runs on until it mirrors these streams
pub record RunsTo (w : WorldView) (ticks : List Tick) (s : StreamsView) : Type 0 where
  pub world : WorldView
  pub happened : List FleetEvent
  pub run : FleetRun w happened world
  pub ticks_are : ticks_of happened ≡ ticks
  pub mirrors : MirrorsStreams world s
