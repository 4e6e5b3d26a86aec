-- What a fleet is made of, and how it is at the beginning.
use Rattle.std.specs.Prelude.{◌≡◌, ◌↔◌, ◌⊎◌, ℕ, ◌+◌, ◌<◌, ◌≤◌, pos, min, IsTrue, List, [], ◌∷◌, ◌++◌, All, AllPairs, Contains, length, map, fold, nat_lt, slice_get, slice_set, Option, Some, None, if◌then◌else◌}
use Rattle.mr_clock.specs.Readings.{readings_at_first}
use Rattle.mr_history.specs.declared.entry.Author.TheVariants.{Beginning}
use Rattle.mr_history.specs.declared.entry.Entry.{Entry}
use Rattle.mr_history.specs.declared.entry.Entry.TheVariants.{Stored}
use Rattle.mr_phases.specs.Schedule.{least_interval}
use Rattle.mr_pools.specs.Routing.{RoutingView, pool_of}
use Rattle.mr_node.specs.declared.command.NodeCommand.TheVariants.{Set}
use Rattle.mr_node.specs.Recency.{items_after}
use Rattle.mr_proxy.specs.ProxyView.{ProxyView, fresh_proxy}
use Rattle.mr_proxy.specs.Sheets.{HaveAsManyHops}
use Rattle.mr_proxy.specs.declared.world_error.WorldError.{WorldError}
use Rattle.mr_proxy.specs.declared.world_error.WorldError.TheVariants.{NoSuchProxy, NoSuchNode, NoSuchMessage, IssueRefused, OutOfMemory, NoSuchOp, HopsDiffer}
use Rattle.mr_world.specs.declared.setup.ProxySetup.{ProxySetup}
use Rattle.mr_world.specs.declared.setup.HeldItem.{HeldItem}
use Rattle.mr_world.specs.Positions.{node_number}
use Rattle.mr_world.specs.declared.node.Node.{Node}
use Rattle.mr_world.specs.WorldView.{WorldView}

-- what a fleet is made of
pub record SetupView : Type 0 where
  -- by their numbers
  pub proxies : List ProxySetup
  -- the most items of each node
  pub capacity : ℕ
  -- what the nodes hold at the beginning
  pub held : List HeldItem

-- a proxy's routing has a node of this name in the pool of this number
pub record HasNamedNode (routing : RoutingView) (pool : ℕ) (name : List ℕ) : Type 0 where
  pub there : pool < length routing.pools
  pub names : Contains (pool_of routing pool) name

-- a routing has a node of this name
pub record NamesNode (routing : RoutingView) (name : List ℕ) : Type 0 where
  pub pool : ℕ
  pub has : HasNamedNode routing pool name

-- some proxy's routing has a node of this name
pub record IsNamed (proxies : List ProxySetup) (name : List ℕ) : Type 0 where
  pub proxy : ProxySetup
  pub home : Contains proxies proxy
  pub names : NamesNode proxy.routing name

-- each proxy's routing has the pools of the hops of its schedule, and no more
abbrev pub ChainsMatch : List ProxySetup → Type 0
ChainsMatch proxies = All (λ proxy. HaveAsManyHops proxy.routing proxy.schedule) proxies

-- the nodes could hold something, and there is a node for each item that is held
pub record HasHomes (setup : SetupView) : Type 0 where
  pub not_zero : (setup.proxies ≡ []) ⊎ (1 ≤ setup.capacity)
  pub named : All (λ item. IsNamed setup.proxies item.node) setup.held

-- there is a fleet of this setup
pub record CanBeMade (setup : SetupView) : Type 0 where
  pub chains : ChainsMatch setup.proxies
  pub homes : HasHomes setup

-- why no fleet is made: the first of these that holds, and want of memory only where there is one
abbrev pub RefusesSetup : SetupView → WorldError → Type 0
RefusesSetup setup HopsDiffer = ¬ ChainsMatch setup.proxies
RefusesSetup setup NoSuchNode = ChainsMatch setup.proxies × ¬ HasHomes setup
RefusesSetup setup OutOfMemory = CanBeMade setup
RefusesSetup setup NoSuchProxy = ⊥
RefusesSetup setup NoSuchMessage = ⊥
RefusesSetup setup (IssueRefused refusal) = ⊥
RefusesSetup setup NoSuchOp = ⊥

-- accepted no request yet
abbrev pub proxies_from : ℕ → List ProxySetup → List ProxyView
proxies_from number [] = []
proxies_from number (proxy ∷ proxies) = fresh_proxy number 0 proxy.routing proxy.schedule proxy.room ∷ proxies_from (number + 1) proxies

-- a node of this name that holds nothing
abbrev pub empty_node : ℕ → List ℕ → Node
empty_node capacity name = record { name = name; cache = record { capacity = capacity; items = [] } }

-- a name that has no node yet gets the next one
abbrev pub with_name : ℕ → List Node → List ℕ → List Node
with_name capacity nodes name = if nat_lt (node_number nodes name) (length nodes) then nodes else nodes ++ empty_node capacity name ∷ []

-- the nodes, and those of a pool that aren't there yet
abbrev pub with_pool : ℕ → List Node → List (List ℕ) → List Node
with_pool capacity nodes pool = fold (with_name capacity) nodes pool

-- the nodes, and those of a routing that aren't there yet
abbrev pub with_routing : ℕ → List Node → RoutingView → List Node
with_routing capacity nodes routing = fold (with_pool capacity) nodes routing.pools

-- one empty node for each name, in order of first appearance: proxy by proxy, pools in order
abbrev pub nodes_of : ℕ → List ProxySetup → List Node
nodes_of capacity proxies = fold (λ nodes proxy. with_routing capacity nodes proxy.routing) [] proxies

-- the node after a set without expiry
abbrev pub with_item : HeldItem → Node → Node
with_item item node =
    record {
      name = node.name;
      cache = record node.cache { items = items_after node.cache.capacity 0 (Set item.key item.flags (pos 0) item.block) node.cache.items };
    }

-- the node of this number holds one more item, if it is there
abbrev pub hold_at : List Node → ℕ → HeldItem → Option Node → List Node
hold_at nodes number item None = nodes
hold_at nodes number item (Some node) = slice_set nodes number (with_item item node)

-- the node of that name holds one more item
abbrev pub hold : List Node → HeldItem → List Node
hold nodes item = hold_at nodes (node_number nodes item.node) item (slice_get nodes (node_number nodes item.node))

-- the nodes with the items that are held at the beginning
abbrev pub nodes_at_first : SetupView → List Node
nodes_at_first setup = fold hold (nodes_of setup.capacity setup.proxies) setup.held

-- the history begins with a held item as stored
abbrev pub held_entry : HeldItem → Entry
held_entry item = Stored Beginning item.key item.flags item.block

-- all proxies have one routing and one schedule
abbrev pub AllAlike : List ProxySetup → Type 0
AllAlike proxies = AllPairs (λ one other. (one.routing ≡ other.routing) × (one.schedule ≡ other.schedule)) proxies

-- a pool other than the first has a node of this name
pub record MovesTo (routing : RoutingView) (name : List ℕ) : Type 0 where
  pub pool : ℕ
  pub later : 0 < pool
  pub has : HasNamedNode routing pool name

-- no item is held by a node of a pool that some proxy moves to
abbrev pub IsNewPoolEmpty : SetupView → Type 0
IsNewPoolEmpty setup = All (λ item. All (λ proxy. ¬ MovesTo proxy.routing item.node) setup.proxies) setup.held

-- the least of this and the intervals of all proxies
abbrev pub least_interval_from : ℕ → List ProxySetup → ℕ
least_interval_from least proxies = fold min least (map (λ proxy. least_interval proxy.schedule) proxies)

-- the least interval of all proxies, 0 without proxies
abbrev pub least_interval_of : List ProxySetup → ℕ
least_interval_of [] = 0
least_interval_of (first ∷ rest) = least_interval_from (least_interval first.schedule) rest

-- nothing happened yet
pub record Begins (setup : SetupView) (w : WorldView) : Type 0 where
  pub readings : w.readings ≡ readings_at_first (map (λ proxy. proxy.reading) setup.proxies)
  pub proxies : w.proxies ≡ proxies_from 0 setup.proxies
  pub nodes : w.nodes ≡ nodes_at_first setup
  pub sent : w.sent ≡ []
  pub replies : w.replies ≡ []
  pub history : w.history ≡ map held_entry setup.held
  pub same : IsTrue w.terms.same ↔ AllAlike setup.proxies
  pub new_empty : IsTrue w.terms.new_empty ↔ IsNewPoolEmpty setup
  pub least : w.terms.least ≡ least_interval_of setup.proxies
