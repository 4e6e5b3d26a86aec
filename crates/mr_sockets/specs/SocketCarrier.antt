-- A carrier that connects to its node, and what it does with a leg.
use Rattle.std.specs.Prelude.{◌≡◌, ℕ, ◌+◌, ◌⊎◌, List, [], ◌∷◌, ◌++◌, false, Option, Some, None, Result, Ok, Err}
use Rattle.std.specs.declared.net.socket_addr.SocketAddrV4.{SocketAddrV4}
use Rattle.mr_join.specs.declared.leg_reply.LegReply.{LegReply}
use Rattle.mr_node.specs.declared.command.NodeCommand.{NodeCommand}
use Rattle.mr_proxy.specs.declared.sheet.LegSheet.{LegSheet}
use Rattle.mr_text.specs.Sink.{SinkView}
use Rattle.mr_text.specs.Source.{SourceView}
use Rattle.mr_desks.specs.declared.error.WorkerError.{WorkerError}
use Rattle.mr_desks.specs.declared.error.WorkerError.TheVariants.{LinkBroken}
use Rattle.mr_sessions.specs.Link.{LinkView, HasCarried, Breaks, new_link}
use Rattle.mr_sockets.specs.Address.{IsNodeAddress}

-- a connection that there is
pub record ConnectionView : Type 0 where
  -- the address that it was made to
  pub peer : SocketAddrV4
  pub link : LinkView

-- how a carrier reaches its node
pub record Reach : Type 0 where
  -- the node's name
  pub name : List ℕ
  -- how many reads are made at most for one leg
  pub turns : ℕ
  -- the addresses that were dialled, in order
  pub dialled : List SocketAddrV4
  pub connection : Option ConnectionView

-- a reach of these four
abbrev pub reach : List ℕ → ℕ → List SocketAddrV4 → Option ConnectionView → Reach
reach name turns dialled connection = record { name = name; turns = turns; dialled = dialled; connection = connection }

-- a carrier as contracts see it
pub record SocketView : Type 0 where
  pub reach : Reach
  -- how often a leg wasn't carried
  pub faults : ℕ

-- a carrier that dialled nothing yet
unfoldable pub fresh_carrier : ℕ → List ℕ → SocketView
fresh_carrier turns name = record { reach = reach name turns [] None; faults = 0 }

-- a reader of which nothing was read
abbrev pub unread_source : Option (List ℕ) → SourceView
unread_source left = record { taken = []; left = left; reads = 0; failures = 0; least_room = None }

-- a writer to which nothing was written
abbrev pub unwritten_sink : Option (List ℕ) → SinkView
unwritten_sink contents = record { written = []; handed = []; calls = 0; failures = 0; last_failed = false; contents = contents }

-- a link by a new connection
pub record IsNewLink (turns : ℕ) (link : LinkView) : Type 0 where
  pub left : Option (List ℕ)
  pub contents : Option (List ℕ)
  pub new : link ≡ new_link (unread_source left) (unwritten_sink contents) turns

-- a new connection to this address
pub record IsNewConnection (address : SocketAddrV4) (turns : ℕ) (connection : ConnectionView) : Type 0 where
  pub peer : connection.peer ≡ address
  pub is_new : IsNewLink turns connection.link

-- a connection that a carrier keeps to the node of this name
pub record IsKeptTo (name : List ℕ) (connection : ConnectionView) : Type 0 where
  pub peer : IsNodeAddress name connection.peer
  pub whole : connection.link.broken ≡ false

-- The leg went over this connection, which is kept; or it wasn't carried, and the connection is given away.
abbrev pub CarriesOver : NodeCommand → ConnectionView → Result LegReply WorkerError → Option ConnectionView → Type 0
CarriesOver command connection (Ok leg) kept =
    (after : LinkView) × HasCarried command connection.link leg after × (kept ≡ Some (record connection { link = after }))
CarriesOver command connection (Err fault) kept = ((after : LinkView) × Breaks command connection.link fault after) × (kept ≡ None)

-- no connection could be made, and the leg isn't carried
abbrev pub IsUnreached : Result LegReply WorkerError → Option ConnectionView → Type 0
IsUnreached result kept = (result ≡ Err LinkBroken) × (kept ≡ None)

-- the leg went over a new connection to this address, where there is one
abbrev pub CarriesTo : SocketAddrV4 → NodeCommand → ℕ → Result LegReply WorkerError → Option ConnectionView → Type 0
CarriesTo address command turns result kept =
    ((connection : ConnectionView) × IsNewConnection address turns connection × CarriesOver command connection result kept)
    ⊎ IsUnreached result kept

-- the address that the node's name is was dialled, once, and the leg went there
pub record Dials (command : NodeCommand) (old : Reach) (result : Result LegReply WorkerError) (new : Reach) : Type 0 where
  pub address : SocketAddrV4
  pub is_node : IsNodeAddress old.name address
  pub dialled_once : new.dialled ≡ old.dialled ++ address ∷ []
  pub carries : CarriesTo address command old.turns result new.connection

-- the node's name is no address, so nothing was dialled
pub record DialsNothing (old : Reach) (result : Result LegReply WorkerError) (new : Reach) : Type 0 where
  pub no_address : (address : SocketAddrV4) → ¬ IsNodeAddress old.name address
  pub nothing_dialled : new.dialled ≡ old.dialled
  pub unreached : IsUnreached result new.connection

-- the leg went over this connection, and nothing was dialled
pub record Reuses (command : NodeCommand) (old : Reach) (connection : ConnectionView) (result : Result LegReply WorkerError) (new : Reach) : Type 0 where
  pub carries : CarriesOver command connection result new.connection
  pub nothing_dialled : new.dialled ≡ old.dialled

-- The leg goes over the connection that there is, or over a new one to the address that the node's name is. Where none can
-- be made, the leg isn't carried.
abbrev pub CarriesBy : Option ConnectionView → NodeCommand → Reach → Result LegReply WorkerError → Reach → Type 0
CarriesBy (Some connection) command old result new = Reuses command old connection result new
CarriesBy None command old result new = Dials command old result new ⊎ DialsNothing old result new

-- a leg goes by what the carrier has; its name and its turns stay
pub record CarriesFrom (command : NodeCommand) (old : Reach) (result : Result LegReply WorkerError) (new : Reach) : Type 0 where
  pub carries : CarriesBy old.connection command old result new
  pub same_name : new.name ≡ old.name
  pub same_turns : new.turns ≡ old.turns

-- a count of faults after a leg
abbrev pub faults_after : ℕ → Result LegReply WorkerError → ℕ
faults_after faults (Ok leg) = faults
faults_after faults (Err fault) = faults + 1

-- the leg goes so, and a fault is counted once
pub record CarriesSo (command : NodeCommand) (old : SocketView) (result : Result LegReply WorkerError) (new : SocketView) : Type 0 where
  pub carries : CarriesFrom command old.reach result new.reach
  pub counted : new.faults ≡ faults_after old.faults result

-- the same, where it isn't told which fault there was
abbrev pub SocketCarries : SocketView → LegSheet → Option LegReply → SocketView → Type 0
SocketCarries old sheet (Some leg) new = CarriesSo sheet.command old (Ok leg) new
SocketCarries old sheet None new = (fault : WorkerError) × CarriesSo sheet.command old (Err fault) new
