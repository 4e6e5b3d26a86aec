-- What nodes are told for a request that is judged by a reading: one sheet for each key and each side.
use Rattle.std.specs.Prelude.{◌≡◌, ℕ, ◌+◌, ◌<◌, List, [], ◌∷◌, length, map, Some, slice_get, Contains}
use Rattle.std.specs.List.{flat_map}
use Rattle.mr_text.specs.declared.request.Request.{Request}
use Rattle.mr_text.specs.declared.request.Request.TheVariants as request
use Rattle.mr_history.specs.declared.op_id.OpId.{OpId}
use Rattle.mr_phases.specs.declared.side.Side.{Side}
use Rattle.mr_phases.specs.declared.side.RequestKind.{RequestKind}
use Rattle.mr_phases.specs.declared.side.RequestKind.TheVariants as kind
use Rattle.mr_phases.specs.Schedule.{Hop, hop_of}
use Rattle.mr_phases.specs.Sides.{sides_at}
use Rattle.mr_phases.specs.Pools.{pool_number, read_pool, delete_pools}
use Rattle.mr_pools.specs.Names.{name_at, HasNode}
use Rattle.mr_pools.specs.Routing.{RoutingView, pool_of, place_of}
use Rattle.mr_node.specs.Command.{key_of_command}
use Rattle.mr_node.specs.declared.command.NodeCommand.{NodeCommand}
use Rattle.mr_node.specs.declared.command.NodeCommand.TheVariants.{Get, Set, Delete}
use Rattle.mr_proxy.specs.declared.sheet.LegSheet.{LegSheet}

-- a routing and a schedule of one chain of migrations: one pool more than hops
abbrev pub HaveAsManyHops : RoutingView → List Hop → Type 0
HaveAsManyHops routing hops = length routing.pools ≡ length hops + 1

-- the routing has both pools of this hop
abbrev pub HasHop : RoutingView → ℕ → Type 0
HasHop routing hop = hop + 1 < length routing.pools

-- the pool whose node is told, counted from 0 in the order of the migrations
abbrev pub pool_at : LegSheet → ℕ
pool_at sheet = pool_number sheet.hop sheet.side

-- the routing has the node that is told
abbrev pub IsPlaced : RoutingView → LegSheet → Type 0
IsPlaced routing sheet = HasNode routing (pool_at sheet) sheet.node

-- the name of the node that is told
abbrev pub node_name : RoutingView → LegSheet → List ℕ
node_name routing sheet = name_at routing (pool_at sheet) sheet.node

-- the index, in the sheet's pool, of the node that keeps its key
abbrev pub node_by_key : RoutingView → LegSheet → ℕ
node_by_key routing sheet = place_of routing.hash (pool_of routing (pool_at sheet)) (key_of_command sheet.command)

-- the sheet, to the node that keeps its key
abbrev pub placed : RoutingView → LegSheet → LegSheet
placed routing sheet = record sheet { node = node_by_key routing sheet }

-- the kind by which a request's sides are found; a Quit has no command, and so no leg
abbrev pub kind_of : Request → RequestKind
kind_of (request.Get keys) = kind.Get
kind_of (request.Set key flags exptime block noreply) = kind.Set
kind_of (request.Delete key noreply) = kind.Delete
kind_of request.Quit = kind.Get

-- what nodes are told to do, one command for each key
abbrev pub commands_of : Request → List NodeCommand
commands_of (request.Get keys) = map Get keys
commands_of (request.Set key flags exptime block noreply) = Set key flags exptime block ∷ []
commands_of (request.Delete key noreply) = Delete key ∷ []
commands_of request.Quit = []

-- how many legs a request has, of which a delete goes to so many sides
abbrev pub legs_of : Request → ℕ → ℕ
legs_of (request.Get keys) sides = length keys
legs_of (request.Set key flags exptime block noreply) sides = 1
legs_of (request.Delete key noreply) sides = sides
legs_of request.Quit sides = 0

-- a command, and the side that is told it
pub record Target : Type 0 where
  pub side : Side
  pub command : NodeCommand

-- each command goes to each side
abbrev pub targets_of : List Side → List NodeCommand → List Target
targets_of sides commands = flat_map (λ command. map (λ side. record { side = side; command = command }) sides) commands

-- the sheet of the leg of a place, in a hop
abbrev pub sheet_at : RoutingView → ℕ → OpId → ℕ → Target → LegSheet
sheet_at routing hop op place target =
    placed routing (record { id = record { op = op; place = place }; hop = hop; side = target.side; node = 0; command = target.command })

-- the sheets of legs from a place on, all in one hop
abbrev pub sheets_from : RoutingView → ℕ → OpId → ℕ → List Target → List LegSheet
sheets_from routing hop op place [] = []
sheets_from routing hop op place (target ∷ targets) = sheet_at routing hop op place target ∷ sheets_from routing hop op (place + 1) targets

-- the sheets of a request that is judged by this reading, in order of place: those of the hop in force
abbrev pub sheets_by : RoutingView → List Hop → OpId → ℕ → Request → List LegSheet
sheets_by routing hops op u request =
    sheets_from routing (hop_of hops u) op 0 (targets_of (sides_at hops (kind_of request) u) (commands_of request))

-- the sheet of a place: a command of the request, to a side that the reading gives in the hop in force, at the key's node there
pub record IsSheetOf (routing : RoutingView) (hops : List Hop) (op : OpId) (u : ℕ) (request : Request) (place : ℕ) (sheet : LegSheet) : Type 0 where
  pub named : sheet.id ≡ record { op = op; place = place }
  pub hop : sheet.hop ≡ hop_of hops u
  pub node : sheet.node ≡ node_by_key routing sheet
  pub side : Contains (sides_at hops (kind_of request) u) sheet.side
  pub command : Contains (commands_of request) sheet.command

-- a get or a set goes to the pool that the reading reads, a delete to one that the reading deletes from
abbrev pub GoesBy : List Hop → ℕ → ℕ → NodeCommand → Type 0
GoesBy hops u pool (Get key) = pool ≡ read_pool hops u
GoesBy hops u pool (Set key flags exptime block) = pool ≡ read_pool hops u
GoesBy hops u pool (Delete key) = Contains (delete_pools hops u) pool

-- one of the sheets deletes this key in this pool
pub record DeletesIn (sheets : List LegSheet) (op : OpId) (pool : ℕ) (key : List ℕ) : Type 0 where
  pub place : ℕ
  pub sheet : LegSheet
  pub there : slice_get sheets place ≡ Some sheet
  pub same_op : sheet.id.op ≡ op
  pub same_pool : pool_at sheet ≡ pool
  pub command : sheet.command ≡ Delete key

-- the sheet of a place asks for the key of that place
pub record AsksFor (keys : List (List ℕ)) (place : ℕ) (sheet : LegSheet) : Type 0 where
  pub key : List ℕ
  pub there : slice_get keys place ≡ Some key
  pub command : sheet.command ≡ Get key
