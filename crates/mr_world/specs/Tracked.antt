-- What holds of every fleet, whatever happened.
use Rattle.std.specs.Prelude.{◌≡◌, ℕ, ◌<◌, List, length, map}
use Rattle.mr_clock.specs.Readings.{AreWithin}
use Rattle.mr_history.specs.declared.entry.Entry.{Entry}
use Rattle.mr_history.specs.declared.op_id.OpId.{OpId}
use Rattle.mr_history.specs.History.{IsWellFormed, WasIssued, WasAnswered}
use Rattle.mr_history.specs.Places.{At}
use Rattle.mr_pools.specs.Names.{HasNode, name_at}
use Rattle.mr_proxy.specs.Pending.{PendingView}
use Rattle.mr_proxy.specs.ProxyView.{ProxyView}
use Rattle.mr_proxy.specs.Sheets.{pool_at}
use Rattle.mr_proxy.specs.Sound.{IsSound, WasGivenOut}
use Rattle.mr_world.specs.declared.message.Message.{Message}
use Rattle.mr_world.specs.declared.message.Delivery.{Delivery}
use Rattle.mr_world.specs.declared.node.Node.{Node}
use Rattle.mr_world.specs.Lists.{Has}
use Rattle.mr_world.specs.Positions.{node_number}
use Rattle.mr_world.specs.WorldView.{WorldView}

-- a proxy knows its number and is sound, and there is a node of each name in its pools
pub record IsAtHome (nodes : List Node) (place : ℕ) (proxy : ProxyView) : Type 0 where
  pub number : proxy.number ≡ place
  pub sound : IsSound proxy
  pub named : (pool index : ℕ) → HasNode proxy.routing pool index → node_number nodes (name_at proxy.routing pool index) < length nodes

-- the op was issued and not answered
pub record IsUnanswered (history : List Entry) (op : OpId) : Type 0 where
  pub issued : WasIssued history op
  pub unanswered : ¬ WasAnswered history op

-- a request under way
pub record IsWaiting (proxies : List ProxyView) (pending : PendingView) : Type 0 where
  pub number : ℕ
  pub proxy : ProxyView
  pub place : ℕ
  pub home : At proxies number proxy
  pub there : At proxy.outstanding place pending

-- a message goes to a node that is there, for a request that was issued
pub record IsSent (nodes : List Node) (history : List Entry) (message : Message) : Type 0 where
  pub node : message.node < length nodes
  pub issued : WasIssued history message.sheet.id.op

-- a message's node has the name that the routing of its proxy gives
pub record GoesWhereNamed (proxies : List ProxyView) (nodes : List Node) (message : Message) : Type 0 where
  pub proxy : ProxyView
  pub node : Node
  pub home : At proxies message.sheet.id.op.proxy proxy
  pub there : At nodes message.node node
  pub named : node.name ≡ name_at proxy.routing (pool_at message.sheet) message.sheet.node

-- the legs of one request are all in the hop that was in force when it was issued
abbrev pub LegsShareHops : List Message → Type 0
LegsShareHops sent =
    (one other : Message) → Has sent one → Has sent other → one.sheet.id.op ≡ other.sheet.id.op → one.sheet.hop ≡ other.sheet.hop

-- the op was given out by the proxy that it names
pub record IsGivenOut (proxies : List ProxyView) (op : OpId) : Type 0 where
  pub proxy : ProxyView
  pub home : At proxies op.proxy proxy
  pub given_out : WasGivenOut proxy op

-- what every step keeps, and on which the facts rest
pub record IsTracked (w : WorldView) : Type 0 where
  pub clocks : length w.readings.standing ≡ length w.proxies
  pub within : AreWithin w.readings.spread w.readings.standing
  pub proxies : (number : ℕ) (proxy : ProxyView) → At w.proxies number proxy → IsAtHome w.nodes number proxy
  pub sent : (number : ℕ) (message : Message) → At w.sent number message → IsSent w.nodes w.history message
  pub goes : (number : ℕ) (message : Message) → At w.sent number message → GoesWhereNamed w.proxies w.nodes message
  pub hops : LegsShareHops w.sent
  pub replies : (number : ℕ) (delivery : Delivery) → At w.replies number delivery → delivery.message < length w.sent
  pub formed : IsWellFormed w.history
  pub given_out : (op : OpId) → WasIssued w.history op → IsGivenOut w.proxies op
  pub waiting : (pending : PendingView) → IsWaiting w.proxies pending → IsUnanswered w.history pending.op

-- the numbers of the nodes that a proxy's routing names, pool by pool
abbrev pub numbers_in : List Node → ProxyView → List (List ℕ)
numbers_in nodes proxy = map (λ pool. map (node_number nodes) pool) proxy.routing.pools

-- the numbers of the nodes that each proxy's routing names, pool by pool
abbrev pub numbers_of : List Node → List ProxyView → List (List (List ℕ))
numbers_of nodes proxies = map (numbers_in nodes) proxies
