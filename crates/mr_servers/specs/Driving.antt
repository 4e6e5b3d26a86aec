-- What a proxy on loops is told to be, with which loops a node begins, and what is noted of a service on loops, or why its loops couldn't be
-- opened.
use Rattle.std.specs.Prelude.{◌≡◌, ⊤, ℕ, List, [], ◌∷◌, ◌++◌, length, Option, Some, None, Result, Ok, Err}
use Rattle.std.specs.declared.io.ErrorKind.{ErrorKind}
use Rattle.std.specs.declared.io.ErrorKind.TheVariants as kind
use Rattle.mr_loop.specs.LoopView.{LoopView}
use Rattle.mr_loop.specs.declared.node.client.NodeClient.{NodeClient}
use Rattle.mr_loop.specs.declared.node.counts.ServedCounts.{ServedCounts}
use Rattle.mr_loop.specs.node.Counts.{nothing_served}
use Rattle.mr_loop.specs.node.NodeView.{NodeView}
use Rattle.mr_servers.specs.Drives.{Drive}
use Rattle.mr_servers.specs.Reports.{room_of}
use Rattle.mr_servers.specs.declared.driven_proxy.Known.{Known}
use Rattle.mr_servers.specs.declared.fault.OpenFault.{OpenFault}
use Rattle.mr_servers.specs.declared.fault.OpenFault.TheVariants.{Net, OutOfMemory}

-- this is the routing and the schedule of the first machine, the room of all, and how many they are
pub record IsKnown (first : LoopView) (machines : List LoopView) (known : Known) : Type 0 where
  pub routing : known.routing ≡ first.front.core.routing
  pub schedule : known.schedule ≡ first.front.core.schedule
  pub room : known.room ≡ room_of machines
  pub loops : known.loops ≡ length machines

-- what is known of machines, if there is one
abbrev pub IsKnownOf : List LoopView → Option Known → Type 0
IsKnownOf [] None = ⊤
IsKnownOf [] (Some known) = ⊥
IsKnownOf (first ∷ others) None = ⊥
IsKnownOf (first ∷ others) (Some known) = IsKnown first (first ∷ others) known

-- what a loop of a node is beside its cache
pub record LoopParts : Type 0 where
  pub clients : List NodeClient
  pub most_unread : ℕ
  pub counts : ServedCounts

-- a loop beside its cache
abbrev pub parts_of : {C : Type 0} → NodeView C → LoopParts
parts_of l = record { clients = l.clients; most_unread = l.most_unread; counts = l.counts }

-- a loop without clients, which serves nobody who has more bytes unread
abbrev pub fresh_parts : ℕ → LoopParts
fresh_parts most = record { clients = []; most_unread = most; counts = nothing_served }

-- memory was refused, or anything else failed
abbrev pub fault_of : ErrorKind → OpenFault
fault_of kind.OutOfMemory = OutOfMemory
fault_of _ = Net

-- a service on loops that ran is noted behind those before it, and one whose loops couldn't be opened isn't
abbrev pub drives_noted : Drive → Result ℕ OpenFault → List Drive → List Drive
drives_noted drive (Ok served) drives = drives ++ drive ∷ []
drives_noted drive (Err fault) drives = drives
