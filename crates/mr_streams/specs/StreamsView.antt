-- A fleet whose proxies and nodes are loops, with the bytes that are on their way between them.
use Rattle.std.specs.Prelude.{◌≡◌, ℕ, Bool, List, [], map, Option}
use Rattle.mr_clock.specs.Readings.{ReadingsView}
use Rattle.mr_history.specs.declared.entry.Entry.{Entry}
use Rattle.mr_node.specs.Outcome.{OutcomeAt}
use Rattle.mr_node.specs.Recency.{CacheView, RecencyStep}
use Rattle.mr_proxy.specs.ProxyView.{ProxyView}
use Rattle.mr_loop.specs.LoopView.{LoopView}
use Rattle.mr_loop.specs.declared.turns.Turn.{Turn}
use Rattle.mr_loop.specs.node.Cache.{Does}
use Rattle.mr_loop.specs.node.NodeView.{NodeView}
use Rattle.mr_world.specs.declared.node.Node.{Node}

-- what a node's cache does for a request: exactly what its commands do, or nothing where memory is refused
abbrev pub node_does : Does CacheView
node_does = OutcomeAt RecencyStep (λ old _ _ new. new ≡ old)

-- a node: its name, and its cache with the clients that it serves
pub record NodeEnd : Type 0 where
  pub name : List ℕ
  pub loop : NodeView CacheView

-- a connection from a proxy to a node, and the bytes that are on their way over it
pub record Connection : Type 0 where
  -- the proxy's number, and which of its links went over it
  pub proxy : ℕ
  pub link : ℕ
  -- the node's number
  pub node : ℕ
  -- its place among the clients of the node; none once the node's end of it is gone
  pub place : Option ℕ
  -- the proxy's end of it is gone
  pub is_left : Bool
  -- the bytes on their way to the node, and to the proxy
  pub forth : List ℕ
  pub back : List ℕ

-- what happened to the client of a place since it came
pub record Visit : Type 0 where
  -- the bytes that it sent
  pub sent : List ℕ
  -- the turns whose texts were put to the bytes that it is to be told
  pub put : List Turn
  -- the bytes that it was told
  pub heard : List ℕ

-- a whole fleet, as streams of bytes
pub record StreamsView : Type 0 where
  -- what the proxies' clocks show
  pub readings : ReadingsView
  -- the proxies, by their numbers
  pub loops : List LoopView
  -- their clients, by proxies and places
  pub visits : List (List Visit)
  -- one for each name
  pub nodes : List NodeEnd
  -- each connection that was ever made
  pub connections : List Connection
  -- what happened
  pub history : List Entry

-- nothing came of a client yet
abbrev pub fresh_visit : Visit
fresh_visit = record { sent = []; put = []; heard = [] }

-- the nodes as the world knows them
abbrev pub world_nodes : List NodeEnd → List Node
world_nodes nodes = map (λ (node : NodeEnd). record { name = node.name; cache = node.loop.cache }) nodes

-- the cores of the proxies
abbrev pub cores_of : List LoopView → List ProxyView
cores_of loops = map (λ (loop : LoopView). loop.front.core) loops
