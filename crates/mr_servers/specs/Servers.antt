-- The services of a machine, as contracts see them.
use Rattle.std.specs.Prelude.{◌≡◌, ℕ, ◌+◌, ◌≤◌, ◌⊎◌, false, List, [], ◌∷◌, ◌++◌, Option, Some, None, Result, Ok, Err}
use Rattle.std.specs.declared.net.socket_addr.SocketAddrV4.{SocketAddrV4}
use Rattle.std.specs.declared.random_state.RandomState.{RandomState}
use Rattle.mr_driver.specs.declared.serving.DriverBounds.{DriverBounds}
use Rattle.mr_loop.specs.LoopView.{LoopView}
use Rattle.mr_pools.specs.Routing.{RoutingView}
use Rattle.mr_proxy.specs.ProxyView.{ProxyView}
use Rattle.mr_sockets.specs.Listening.{Listens, ListensNowhere}
use Rattle.mr_sockets.specs.SeededNode.{SeededView}
use Rattle.mr_sockets.specs.Serving.{NodeServing, ProxyServing, Run, run}
use Rattle.mr_sockets.specs.declared.bounds.ServiceBounds.{ServiceBounds}
use Rattle.mr_servers.specs.Drives.{Drive, NodeDrive, ProxyDrive}
use Rattle.mr_servers.specs.declared.driven_node.NodeLoops.{NodeLoops}
use Rattle.mr_servers.specs.declared.fault.OpenFault.{OpenFault}
use Rattle.mr_servers.specs.declared.fault.OpenFault.TheVariants.{Net, Metrics, OutOfMemory}
use Rattle.mr_servers.specs.declared.fault.SeedFault.{SeedFault}
use Rattle.mr_servers.specs.declared.screen.Screen.{Screen}

-- where a service listens for clients, and where its metrics are told, if they are
pub record Places : Type 0 where
  pub listen : List ℕ
  pub metrics : Option (List ℕ)

-- for clients alone
abbrev pub clients_at : List ℕ → Places
clients_at listen = record { listen = listen; metrics = None }

-- a service that is asked for, with the addresses that it listens at and its bounds
pub data Asked : Type 0 where
  -- a node
  NodeAt : (places : Places) (node : SeededView) (bounds : ServiceBounds) → Asked
  -- a proxy, and the routing that its carriers are made of
  ProxyAt : (places : Places) (proxy : ProxyView) (routing : RoutingView) (bounds : ServiceBounds) → Asked
  -- a proxy on these loops
  LoopsAt : (places : Places) (loops : List LoopView) (bounds : DriverBounds) → Asked
  -- a node that these loops share
  NodeLoopsAt : (places : Places) (node : SeededView) (loops : NodeLoops) (bounds : DriverBounds) → Asked

-- the addresses that it listens at
abbrev pub places_of : Asked → Places
places_of (NodeAt places node bounds) = places
places_of (ProxyAt places proxy routing bounds) = places
places_of (LoopsAt places loops bounds) = places
places_of (NodeLoopsAt places node loops bounds) = places

-- the number of its clients
abbrev pub clients_of : Asked → ℕ
clients_of (NodeAt places node bounds) = bounds.clients
clients_of (ProxyAt places proxy routing bounds) = bounds.clients
clients_of (LoopsAt places loops bounds) = bounds.clients
clients_of (NodeLoopsAt places node loops bounds) = bounds.clients

-- the services of threads that ran, with this one behind them where it is one
abbrev pub runs_after : Asked → List Run → List Run
runs_after (NodeAt places node bounds) runs = runs ++ run (NodeServing (Some node) bounds.turns) bounds.clients ∷ []
runs_after (ProxyAt places proxy routing bounds) runs = runs ++ run (ProxyServing (Some proxy) routing bounds.turns) bounds.clients ∷ []
runs_after (LoopsAt places loops bounds) runs = runs
runs_after (NodeLoopsAt places node loops bounds) runs = runs

-- the services on loops that ran, with this one behind them where it is one
abbrev pub drives_after : Asked → List Drive → List Drive
drives_after (NodeAt places node bounds) drives = drives
drives_after (ProxyAt places proxy routing bounds) drives = drives
drives_after (LoopsAt places loops bounds) drives = drives ++ ProxyDrive loops bounds ∷ []
drives_after (NodeLoopsAt places node loops bounds) drives = drives ++ NodeDrive node loops bounds ∷ []

-- a place that is no terminal
abbrev pub no_terminal : Screen
no_terminal = record { terminal = false; colours = false }

-- the services of a machine
pub record ServersView : Type 0 where
  -- where the output goes
  pub screen : Screen
  -- how many threads run at once, as far as that was said
  pub processors : ℕ
  -- the addresses that a socket was asked to listen at, in order
  pub listened : List SocketAddrV4
  -- the seeds that were drawn, in order
  pub seeds : List RandomState
  -- the services of threads that ran, in order
  pub runs : List Run
  -- the services on loops that ran, in order
  pub drives : List Drive
  -- how often one couldn't begin, for want of a socket, of a seed or of what its loops need
  pub failures : ℕ

-- nothing was asked of the machine yet, whose output goes to this place
abbrev pub servers_on : Screen → ServersView
servers_on screen = record { screen = screen; processors = 1; listened = []; seeds = []; runs = []; drives = []; failures = 0 }

-- a count of failures after one thing that may fail
abbrev pub failures_after : {A E : Type 0} → ℕ → Result A E → ℕ
failures_after failures (Ok had) = failures
failures_after failures (Err fault) = failures + 1

-- the seeds that were drawn, with this one behind them where it was had
abbrev pub seeds_after : List RandomState → Result RandomState SeedFault → List RandomState
seeds_after seeds (Ok seed) = seeds ++ seed ∷ []
seeds_after seeds (Err fault) = seeds

-- one seed was asked for, once, and this came of it
abbrev pub DrawsSeed : ServersView → Result RandomState SeedFault → ServersView → Type 0
DrawsSeed old result new =
    new ≡ record old { seeds = seeds_after old.seeds result; failures = failures_after old.failures result }

-- a socket was asked for at the address of clients, and then one at that of metrics, if there is one
abbrev pub ListensAtBoth : List ℕ → Option (List ℕ) → List SocketAddrV4 → List SocketAddrV4 → Type 0
ListensAtBoth listen None old new = Listens listen old new
ListensAtBoth listen (Some metrics) old new = (between : List SocketAddrV4) × Listens listen old between × Listens metrics between new

-- a service ran at sockets of its own, and so many of its clients ended without a fault
pub record Ran (asked : Asked) (old : ServersView) (served : ℕ) (new : ServersView) : Type 0 where
  pub listens : ListensAtBoth (places_of asked).listen (places_of asked).metrics old.listened new.listened
  pub ran : new.runs ≡ runs_after asked old.runs
  pub driven : new.drives ≡ drives_after asked old.drives
  pub among : served ≤ clients_of asked

-- no socket listens at the address that a text is, which was asked for once, or not at all since it is none
abbrev pub LacksSocket : List ℕ → List SocketAddrV4 → List SocketAddrV4 → Type 0
LacksSocket text old new = Listens text old new ⊎ ListensNowhere text old new

-- no socket for metrics was had, once there was one for clients
abbrev pub LacksMetrics : List ℕ → Option (List ℕ) → List SocketAddrV4 → List SocketAddrV4 → Type 0
LacksMetrics listen None old new = ⊥
LacksMetrics listen (Some metrics) old new = (between : List SocketAddrV4) × Listens listen old between × LacksSocket metrics between new

-- which socket of a service was not had
abbrev pub LacksPlace : Places → OpenFault → List SocketAddrV4 → List SocketAddrV4 → Type 0
LacksPlace places Net old new = LacksSocket places.listen old new
LacksPlace places Metrics old new = LacksMetrics places.listen places.metrics old new
LacksPlace places OutOfMemory old new = ⊥

-- the sockets of a service on loops were had, and its loops couldn't be opened: for want of memory, or for anything else
abbrev pub LacksLoops : Asked → OpenFault → List SocketAddrV4 → List SocketAddrV4 → Type 0
LacksLoops (LoopsAt places loops bounds) Net old new = ListensAtBoth places.listen places.metrics old new
LacksLoops (LoopsAt places loops bounds) OutOfMemory old new = ListensAtBoth places.listen places.metrics old new
LacksLoops (NodeLoopsAt places node loops bounds) Net old new = ListensAtBoth places.listen places.metrics old new
LacksLoops (NodeLoopsAt places node loops bounds) OutOfMemory old new = ListensAtBoth places.listen places.metrics old new
LacksLoops asked fault old new = ⊥

-- both sockets of a service were had, or one wasn't, which is counted; nothing else was done
abbrev pub OpensBoth : {A : Type 0} → Places → ServersView → Result A OpenFault → ServersView → Type 0
OpensBoth places old (Ok sockets) new =
    ListensAtBoth places.listen places.metrics old.listened new.listened × (new ≡ record old { listened = new.listened })
OpensBoth places old (Err fault) new =
    LacksPlace places fault old.listened new.listened × (new ≡ record old { listened = new.listened; failures = old.failures + 1 })

-- a service lacked a socket, or what its loops need, and didn't run
pub record RanNot (asked : Asked) (old : ServersView) (fault : OpenFault) (new : ServersView) : Type 0 where
  pub lacks : LacksPlace (places_of asked) fault old.listened new.listened ⊎ LacksLoops asked fault old.listened new.listened
  pub none_ran : new.runs ≡ old.runs
  pub none_driven : new.drives ≡ old.drives

-- the service ran, or it lacked something and didn't
abbrev pub RunsSo : Asked → ServersView → Result ℕ OpenFault → ServersView → Type 0
RunsSo asked old (Ok served) new = Ran asked old served new
RunsSo asked old (Err fault) new = RanNot asked old fault new

-- one service was asked for, once, and this came of it
pub record IsOneService (asked : Asked) (old : ServersView) (result : Result ℕ OpenFault) (new : ServersView) : Type 0 where
  pub runs : RunsSo asked old result new
  pub on : new.screen ≡ old.screen
  pub processors : new.processors ≡ old.processors
  pub undrawn : new.seeds ≡ old.seeds
  pub counted : new.failures ≡ failures_after old.failures result
