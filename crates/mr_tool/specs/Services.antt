-- What the commands that serve clients do, and what the command `node` does.
use Rattle.std.specs.Prelude.{◌≡◌, ◌==◌, ◌≤◌, ℕ, List, ◌++◌, Option, Some, None, Result, Ok, Err, codes, decimal, string_bytes, if◌then◌else◌}
use Rattle.std.specs.declared.random_state.RandomState.{RandomState}
use Rattle.mr_node.specs.declared.error.NodeError.{NodeError}
use Rattle.mr_node.specs.declared.error.NodeError.TheVariants.{ZeroCapacity, OutOfMemory}
use Rattle.mr_sockets.specs.SeededNode.{SeededView, IsSeededNode}
use Rattle.mr_servers.specs.Servers.{Asked, NodeAt, NodeLoopsAt, ServersView, DrawsSeed, IsOneService, Places}
use Rattle.mr_servers.specs.declared.driven_node.NodeLoops.{NodeLoops}
use Rattle.mr_sockets.specs.declared.bounds.ServiceBounds.{ServiceBounds}
use Rattle.mr_sockets.specs.declared.patience.Patience.{Patience}
use Rattle.mr_servers.specs.declared.fault.OpenFault.{OpenFault}
use Rattle.mr_servers.specs.declared.fault.OpenFault.TheVariants as socket
use Rattle.mr_servers.specs.declared.fault.SeedFault.{SeedFault}
use Rattle.mr_text.specs.Sink.{SinkView, IsOneWrite}
use Rattle.mr_text.specs.declared.error.WriteFault.{WriteFault}
use Rattle.mr_tool.specs.Devices.{Devices}
use Rattle.mr_tool.specs.Fault.{net_line}
use Rattle.mr_tool.specs.OnLoops.{driver_bounds, metrics_of, most_unread}
use Rattle.mr_tool.specs.declared.ended.Ended.{Ended}
use Rattle.mr_tool.specs.declared.ended.Ended.TheVariants.{Done, Faulted}
use Rattle.mr_tool.specs.declared.fault.Fault.{Fault}
use Rattle.mr_tool.specs.declared.fault.Fault.TheVariants.{Memory, Input, Output, Net, Node}
use Rattle.mr_words.specs.Words.{loop_count, path_in}
use Rattle.mr_words.specs.declared.loop_words.LoopValues.{LoopValues}
use Rattle.mr_words.specs.declared.service_words.NodeValues.{NodeValues}

-- the line that says how many clients ended without a fault
abbrev pub served_line : ℕ → List ℕ
served_line served = codes "served " ++ (decimal served ++ codes "\n")

-- how a service ends of so many clients, of whom so many ended without a fault
abbrev pub end_of_service : ℕ → ℕ → Ended
end_of_service clients served = if served == clients then Done else Faulted

-- the line of a socket that was not had names its address: that of clients, or that of metrics; where memory was refused there is none
abbrev pub LacksSocketAt : Places → OpenFault → List ℕ → Type 0
LacksSocketAt places socket.Net line = line ≡ net_line places.listen
LacksSocketAt places socket.Metrics line = (metrics : List ℕ) × (places.metrics ≡ Some metrics) × (line ≡ net_line metrics)
LacksSocketAt places socket.OutOfMemory line = ⊥

-- What comes of a service at its addresses once it has ended. The line of it is handed over in one call; where it lacked a socket or
-- memory, or memory is refused for a line, nothing is written.
abbrev pub EndsService : Places → ℕ → Result ℕ OpenFault → SinkView → SinkView → Result Ended Fault → Type 0
EndsService places clients (Ok served) old new (Ok ended) = IsOneWrite (served_line served) old (Ok tt) new × (ended ≡ end_of_service clients served)
EndsService places clients (Ok served) old new (Err Output) = (fault : WriteFault) × IsOneWrite (served_line served) old (Err fault) new
EndsService places clients (Err fault) old new (Err (Net line)) = LacksSocketAt places fault (string_bytes line) × (new ≡ old)
EndsService places clients served old new (Err Memory) = new ≡ old
EndsService places clients served old new _ = ⊥

-- an empty node of that capacity, its keys hashed by a seed that was drawn for it, once
pub record HasNode (capacity : ℕ) (node : SeededView) (idle between : ServersView) : Type 0 where
  pub is_new : IsSeededNode capacity node.seed (Ok node)
  pub drew : DrawsSeed idle (Ok node.seed) between

-- why there is no node: it could hold nothing, and then no seed was drawn; or memory was refused once one was
abbrev pub LacksNode : ℕ → NodeError → ServersView → ServersView → Type 0
LacksNode capacity ZeroCapacity idle busy = (capacity ≡ 0) × (busy ≡ idle)
LacksNode capacity OutOfMemory idle busy = (1 ≤ capacity) × ((seed : RandomState) × DrawsSeed idle (Ok seed) busy)
LacksNode capacity _ idle busy = ⊥

-- there is no node since no seed could be had
abbrev pub LacksSeed : ℕ → ServersView → ServersView → Type 0
LacksSeed capacity idle busy = (1 ≤ capacity) × ((fault : SeedFault) × DrawsSeed idle (Err fault) busy)

-- the node of a service, or why there is none
abbrev pub MakesNode : ℕ → ServersView → Result SeededView Fault → ServersView → Type 0
MakesNode capacity idle (Ok node) busy = HasNode capacity node idle busy
MakesNode capacity idle (Err (Node refusal)) busy = LacksNode capacity refusal idle busy
MakesNode capacity idle (Err Input) busy = LacksSeed capacity idle busy
MakesNode capacity idle (Err fault) busy = ⊥

-- how long a node waits for its clients, in seconds; it has no legs
abbrev pub patience_of_node : NodeValues → Patience
patience_of_node values = record { client_seconds = values.idle_timeout; leg_millis = 0 }

-- what a node's words bound where it runs by threads: its clients, the reads of each, and how long it waits for them
abbrev pub bounds_of_node : NodeValues → ServiceBounds
bounds_of_node values = record { clients = values.clients; turns = values.turns; patience = patience_of_node values }

-- the loops of a node on a machine of so many processors
abbrev pub loops_of_node : LoopValues → ℕ → NodeLoops
loops_of_node loops processors = record { count = loop_count loops processors; most_unread = most_unread }

-- where a node listens
abbrev pub places_of_node : NodeValues → Places
places_of_node values = record { listen = values.listen.now; metrics = metrics_of values.on_loops (path_in values.metrics) }

-- the service of a node: by threads, or on loops that share it
abbrev pub node_asked_by : Option LoopValues → NodeValues → SeededView → ℕ → Asked
node_asked_by None values node processors = NodeAt (places_of_node values) node (bounds_of_node values)
node_asked_by (Some loops) values node processors =
    NodeLoopsAt (places_of_node values) node (loops_of_node loops processors) (driver_bounds values.clients loops (patience_of_node values))

-- what is asked for by these words, of this node, on a machine of so many processors
abbrev pub asked_of_node : NodeValues → SeededView → ℕ → Asked
asked_of_node values node processors = node_asked_by values.on_loops values node processors

-- A node was served, once, and this came of it. No file is asked for, and nothing is read.
pub record RunsNode (values : NodeValues) (before after : Devices) (idle busy : ServersView) (result : Result Ended Fault) : Type 0 where
  pub node : SeededView
  pub between : ServersView
  pub has : HasNode values.capacity node idle between
  pub served : Result ℕ OpenFault
  pub serves : IsOneService (asked_of_node values node between.processors) between served busy
  pub ends : EndsService (places_of_node values) values.clients served before.output after.output result
  pub unasked : after.sources ≡ before.sources
  pub unread : after.input ≡ before.input

-- What the command `node` does. It serves an empty node, or finds the first of the faults in this order: the capacity, the
-- seed, the sockets, memory for loops that have theirs, the output.
abbrev pub NodeGives : NodeValues → Devices → Devices → ServersView → ServersView → Result Ended Fault → Type 0
NodeGives values before after idle busy (Err (Node refusal)) = LacksNode values.capacity refusal idle busy × (after ≡ before)
NodeGives values before after idle busy (Err Input) = LacksSeed values.capacity idle busy × (after ≡ before)
NodeGives values before after idle busy result = RunsNode values before after idle busy result
