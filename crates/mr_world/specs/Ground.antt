-- What the headline rests on: facts of a fleet whose premises hold, each a claim of its own. They speak of pools by
-- number, of which 0 is the old one.
use Rattle.std.specs.Prelude.{◌≡◌, ℕ, ◌+◌, ◌<◌, ◌≤◌, ◌⊎◌, Bool, List, length, ℤ}
use Rattle.mr_text.specs.declared.item.Item.{Item}
use Rattle.mr_text.specs.declared.request.Request.TheVariants.{Delete}
use Rattle.mr_history.specs.declared.op_id.OpId.{OpId}
use Rattle.mr_history.specs.declared.entry.Author.{Author}
use Rattle.mr_history.specs.declared.entry.Author.TheVariants.{Beginning, By}
use Rattle.mr_history.specs.declared.entry.Entry.{Entry}
use Rattle.mr_history.specs.declared.entry.Entry.TheVariants.{Stored, Removed}
use Rattle.mr_history.specs.History.{IsIssued, WasIssued, IsFreshHit}
use Rattle.mr_history.specs.Places.{At}
use Rattle.mr_join.specs.declared.leg_reply.LegReply.TheVariants.{Hit}
use Rattle.mr_phases.specs.Schedule.{Hop}
use Rattle.mr_phases.specs.Pools.{read_pool, delete_pools, SomeFrom}
use Rattle.mr_pools.specs.Names.{name_at}
use Rattle.mr_pools.specs.Routing.{RoutingView, pool_of, place_of}
use Rattle.mr_node.specs.CacheStep.{Datum, Holds, contents_of}
use Rattle.mr_node.specs.Command.{key_of_command}
use Rattle.mr_node.specs.declared.command.NodeCommand.TheVariants as command
use Rattle.mr_proxy.specs.Sheets.{pool_at}
use Rattle.mr_world.specs.declared.message.Message.{Message}
use Rattle.mr_world.specs.declared.message.Delivery.{Delivery}
use Rattle.mr_world.specs.declared.node.Node.{Node}
use Rattle.mr_world.specs.Facts.{CameBack}
use Rattle.mr_world.specs.Lists.{Has}
use Rattle.mr_world.specs.Positions.{node_number}
use Rattle.mr_world.specs.WorldView.{WorldView}

-- a leg of this set went to this pool
pub record SetSent (sent : List Message) (by : OpId) (item : Item) (goal : ℕ) : Type 0 where
  pub message : Message
  pub has : Has sent message
  pub same_op : message.sheet.id.op ≡ by
  pub exptime : ℤ
  pub command : message.sheet.command ≡ command.Set item.key item.flags exptime item.block
  pub pool : pool_at message.sheet ≡ goal

-- a leg of this delete went to such a pool
pub record DeleteSent (sent : List Message) (delete : OpId) (key : List ℕ) (Goal : ℕ → Type 0) : Type 0 where
  pub message : Message
  pub has : Has sent message
  pub same_op : message.sheet.id.op ≡ delete
  pub command : message.sheet.command ≡ command.Delete key
  pub pool : Goal (pool_at message.sheet)

-- a leg of this delete went to this pool or an earlier one
abbrev pub LegUpTo : List Message → OpId → List ℕ → ℕ → Type 0
LegUpTo sent delete key pool = DeleteSent sent delete key (λ goal. goal ≤ pool)

-- a leg of this delete went to this pool or a later one
abbrev pub LegFrom : List Message → OpId → List ℕ → ℕ → Type 0
LegFrom sent delete key pool = DeleteSent sent delete key (λ goal. pool ≤ goal)

-- no set went to a pool later than all those that a delete by some clock goes to
abbrev pub SetsAreReached : List Hop → List ℕ → List Message → Type 0
SetsAreReached hops readings sent =
    (by : OpId) (item : Item) (pool number reading : ℕ) → SetSent sent by item pool → At readings number reading
    → SomeFrom (delete_pools hops reading) pool

-- each delete went to the pool that some clock reads, or to an earlier one
abbrev pub DeletesReachDown : List Hop → List ℕ → List Message → List Entry → Type 0
DeletesReachDown hops readings sent history =
    (delete : OpId) (key : List ℕ) (noreply : Bool) (issue number reading : ℕ) → IsIssued history delete (Delete key noreply) issue
    → At readings number reading → LegUpTo sent delete key (read_pool hops reading)

-- a set that was performed in a pool was performed after the issue of each delete that went to earlier pools alone
abbrev pub SetsComeLater : List Message → List Entry → Type 0
SetsComeLater sent history =
    (by delete : OpId) (item stored : Item) (pool place issue : ℕ) (key : List ℕ) (noreply : Bool) → SetSent sent by item pool
    → At history place (Stored (By by) stored.key stored.flags stored.block) → IsIssued history delete (Delete key noreply) issue
    → (issue < place) ⊎ LegFrom sent delete key pool

-- each delete that was issued before this leg's get went to the leg's pool or to an earlier one
pub record GetComesLater (sent : List Message) (history : List Entry) (message : Message) : Type 0 where
  pub was : WasIssued history message.sheet.id.op
  pub not_above : (delete : OpId) (key : List ℕ) (noreply : Bool) (issue : ℕ) → IsIssued history delete (Delete key noreply) issue → issue < was.place
      → LegUpTo sent delete key (pool_at message.sheet)

-- each delete issued before a get went to the pool of each of its legs or to an earlier one
abbrev pub GetsComeLater : List Message → List Entry → Type 0
GetsComeLater sent history =
    (message : Message) (key : List ℕ) → Has sent message → message.sheet.command ≡ command.Get key → GetComesLater sent history message

-- who may have stored an item that a pool holds: what was held at the beginning is in the first pool
pub data IsSource (sent : List Message) (item : Item) (pool : ℕ) : Author → Type 0 where
  from_beginning : pool ≡ 0 → IsSource sent item pool Beginning
  from_set : {op : OpId} → SetSent sent op item pool → IsSource sent item pool (By op)

-- an item that a pool holds was stored there, and no delete was performed there on its key since
pub record IsHeld (sent : List Message) (history : List Entry) (pool : ℕ) (item : Item) : Type 0 where
  pub by : Author
  pub place : ℕ
  pub stored : At history place (Stored by item.key item.flags item.block)
  pub source : IsSource sent item pool by
  pub unremoved : (message : Message) (gone : ℕ) → Has sent message → pool_at message.sheet ≡ pool
      → At history gone (Removed message.sheet.id.op message.sheet.side item.key) → gone < place

-- the number of the node that keeps the key in a pool
abbrev pub home_of : List Node → RoutingView → ℕ → List ℕ → ℕ
home_of nodes routing pool key = node_number nodes (name_at routing pool (place_of routing.hash (pool_of routing pool) key))

-- each item at its key's node
abbrev pub ItemsAreHeld : RoutingView → WorldView → Type 0
ItemsAreHeld routing w =
    (pool : ℕ) (node : Node) (key : List ℕ) (datum : Datum) → pool < length routing.pools → At w.nodes (home_of w.nodes routing pool key) node
    → Holds (contents_of node.cache.items) key datum
    → IsHeld w.sent w.history pool (record { key = key; flags = datum.flags; block = datum.block })

-- each hit that a node ever gave is fresh for its get already
abbrev pub HitsAreFresh : List Message → List Delivery → List Entry → Type 0
HitsAreFresh sent replies history =
    (message : Message) (flags : ℕ) (block : List ℕ) → CameBack sent replies message (Hit flags block)
    → (was : WasIssued history message.sheet.id.op) × IsFreshHit history (record { key = key_of_command message.sheet.command; flags = flags; block = block }) was.place (length history)

-- while some clock is before the start of a hop, no set went to a pool after the one that the hop leaves
abbrev pub EarlySetsStay : List Hop → List ℕ → List Message → Type 0
EarlySetsStay hops readings sent =
    (hop_number : ℕ) (hop : Hop) (by : OpId) (item : Item) (pool number reading : ℕ) → At hops hop_number hop
    → SetSent sent by item pool → At readings number reading → reading < hop.start → pool ≤ hop_number

-- while some clock is before the middle of a hop, each delete so far went to the pool that the hop leaves or an earlier one
abbrev pub EarlyDeletesReach : List Hop → List ℕ → List Message → List Entry → Type 0
EarlyDeletesReach hops readings sent history =
    (hop_number : ℕ) (hop : Hop) (delete : OpId) (key : List ℕ) (noreply : Bool) (issue number reading : ℕ) → At hops hop_number hop
    → IsIssued history delete (Delete key noreply) issue → At readings number reading
    → reading < hop.start + hop.interval → LegUpTo sent delete key hop_number

-- for proxies of this routing and this schedule
pub record IsGround (routing : RoutingView) (hops : List Hop) (w : WorldView) : Type 0 where
  pub sets_reached : SetsAreReached hops w.readings.standing w.sent
  pub deletes_reach : DeletesReachDown hops w.readings.standing w.sent w.history
  pub sets_later : SetsComeLater w.sent w.history
  pub gets_later : GetsComeLater w.sent w.history
  pub held : ItemsAreHeld routing w
  pub fresh : HitsAreFresh w.sent w.replies w.history
  pub early_sets : EarlySetsStay hops w.readings.standing w.sent
  pub early_deletes : EarlyDeletesReach hops w.readings.standing w.sent w.history
