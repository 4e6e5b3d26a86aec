-- What every fleet shows, whatever its setup, its clocks and its events.
use Rattle.std.specs.Prelude.{◌≡◌, ℕ, ◌<◌, Bool, List, ℤ, Some, Contains}
use Rattle.mr_text.specs.declared.item.Item.{Item}
use Rattle.mr_text.specs.declared.request.Request.{Request}
use Rattle.mr_text.specs.declared.request.Request.TheVariants as request
use Rattle.mr_text.specs.declared.reply.Reply.TheVariants.{Items}
use Rattle.mr_history.specs.declared.entry.Author.TheVariants.{By}
use Rattle.mr_history.specs.declared.entry.Entry.{Entry}
use Rattle.mr_history.specs.declared.entry.Entry.TheVariants.{Stored, Removed, Answered}
use Rattle.mr_history.specs.declared.op_id.OpId.{OpId}
use Rattle.mr_history.specs.History.{IsIssued, IsAcknowledged}
use Rattle.mr_history.specs.Places.{At}
use Rattle.mr_join.specs.declared.leg_reply.LegReply.{LegReply}
use Rattle.mr_join.specs.declared.leg_reply.LegReply.TheVariants.{Hit}
use Rattle.mr_node.specs.declared.command.NodeCommand.TheVariants as command
use Rattle.mr_phases.specs.declared.side.Side.{Side}
use Rattle.mr_proxy.specs.declared.slot.Slot.{Slot}
use Rattle.mr_proxy.specs.Sheets.{commands_of}
use Rattle.mr_proxy.specs.Pending.{PendingView}
use Rattle.mr_proxy.specs.ProxyView.{ProxyView}
use Rattle.mr_world.specs.declared.message.Message.{Message}
use Rattle.mr_world.specs.declared.message.Delivery.{Delivery}
use Rattle.mr_world.specs.Lists.{Has}
use Rattle.mr_world.specs.Tracked.{IsWaiting, GoesWhereNamed}
use Rattle.mr_world.specs.WorldView.{WorldView}

-- the key was removed on this side by this op, between its issue and its answer
pub record IsRemovedBetween (history : List Entry) (op : OpId) (side : Side) (key : List ℕ) (issue answer : ℕ) : Type 0 where
  pub place : ℕ
  pub there : At history place (Removed op side key)
  pub after : issue < place
  pub before : place < answer

-- an acknowledged delete was performed on the side of each of its legs
abbrev pub DeletesArePerformed : List Message → List Entry → Type 0
DeletesArePerformed sent history =
    (delete : OpId) (key : List ℕ) (issue done : ℕ) (message : Message) → IsAcknowledged history delete key issue done → Has sent message
    → message.sheet.id.op ≡ delete → IsRemovedBetween history delete message.sheet.side key issue done

-- the op was issued as a set of this item
pub record WasSet (history : List Entry) (op : OpId) (key : List ℕ) (flags : ℕ) (block : List ℕ) : Type 0 where
  pub exptime : ℤ
  pub noreply : Bool
  pub place : ℕ
  pub issued : IsIssued history op (request.Set key flags exptime block noreply) place

-- the op was issued as a delete of this key
pub record WasDelete (history : List Entry) (op : OpId) (key : List ℕ) : Type 0 where
  pub noreply : Bool
  pub place : ℕ
  pub issued : IsIssued history op (request.Delete key noreply) place

-- each item that was stored by an op was set by it
abbrev pub StoredWereSet : List Entry → Type 0
StoredWereSet history = (op : OpId) (key : List ℕ) (flags : ℕ) (block : List ℕ) (place : ℕ) → At history place (Stored (By op) key flags block) → WasSet history op key flags block

-- each key that was removed by an op was deleted by it
abbrev pub RemovedWereDeleted : List Entry → Type 0
RemovedWereDeleted history = (op : OpId) (side : Side) (key : List ℕ) (place : ℕ) → At history place (Removed op side key) → WasDelete history op key

-- a reply that some delivery of a leg of this op and command gave
pub record CameBack (sent : List Message) (replies : List Delivery) (message : Message) (reply : LegReply) : Type 0 where
  pub number : ℕ
  pub from : ℕ
  pub came : At replies number (record { message = from; reply = reply })
  pub was_sent : At sent from message

-- an item of an answer is a hit that came back from a leg of its get
pub record WasFound (sent : List Message) (replies : List Delivery) (get : OpId) (item : Item) : Type 0 where
  pub message : Message
  pub of_get : message.sheet.id.op ≡ get
  pub asked : message.sheet.command ≡ command.Get item.key
  pub came : CameBack sent replies message (Hit item.flags item.block)

-- each item of an answer is a hit that came back from a leg of its get
abbrev pub HitsCameBack : List Message → List Delivery → List Entry → Type 0
HitsCameBack sent replies history =
    (get : OpId) (items : List Item) (item : Item) (answer : ℕ) → At history answer (Answered get (Items items)) → Has items item → WasFound sent replies get item

-- each message goes to the node that its proxy's routing names
abbrev pub MessagesGoWhereNamed : WorldView → Type 0
MessagesGoWhereNamed w = (message : Message) → Has w.sent message → GoesWhereNamed w.proxies w.nodes message

-- the facts that every fleet shows
pub record Facts (w : WorldView) : Type 0 where
  pub nodes : MessagesGoWhereNamed w
  pub deletes : DeletesArePerformed w.sent w.history
  pub sets : StoredWereSet w.history
  pub removals : RemovedWereDeleted w.history
  pub hits : HitsCameBack w.sent w.replies w.history

-- a message is a command of its op's request
pub record IsTold (history : List Entry) (message : Message) : Type 0 where
  pub request : Request
  pub place : ℕ
  pub issued : IsIssued history message.sheet.id.op request place
  pub command : Contains (commands_of request) message.sheet.command

-- a delete that was delivered was performed
abbrev pub AllRemoved : List Message → List Delivery → List Entry → Type 0
AllRemoved sent replies history =
    (message : Message) (reply : LegReply) (key : List ℕ) → CameBack sent replies message reply → message.sheet.command ≡ command.Delete key
    → Has history (Removed message.sheet.id.op message.sheet.side key)

-- a leg that waits was sent, and what was noted for it came back
pub record IsSlotOf (sent : List Message) (replies : List Delivery) (slot : Slot) : Type 0 where
  pub message : Message
  pub has : Has sent message
  pub sheet : message.sheet ≡ slot.sheet
  pub noted : (reply : LegReply) → slot.reply ≡ Some reply → CameBack sent replies message reply

-- the slot of a message
pub record HasSlot (slots : List Slot) (message : Message) : Type 0 where
  pub slot : Slot
  pub has : Has slots slot
  pub sheet : slot.sheet ≡ message.sheet

-- a request under way: it was issued so, and its slots are its messages
pub record IsUnderWay (sent : List Message) (replies : List Delivery) (history : List Entry) (pending : PendingView) : Type 0 where
  pub place : ℕ
  pub issued : IsIssued history pending.op pending.request place
  pub named : (slot : Slot) → Has pending.slots slot → slot.sheet.id.op ≡ pending.op
  pub slots : (slot : Slot) → Has pending.slots slot → IsSlotOf sent replies slot
  pub every : (message : Message) → Has sent message → message.sheet.id.op ≡ pending.op → HasSlot pending.slots message

-- the facts, and what keeps them
pub record IsFaithful (proxies : List ProxyView) (sent : List Message) (replies : List Delivery) (history : List Entry) : Type 0 where
  pub told : (message : Message) → Has sent message → IsTold history message
  pub removed : AllRemoved sent replies history
  pub waiting : (pending : PendingView) → IsWaiting proxies pending → IsUnderWay sent replies history pending
  pub deletes : DeletesArePerformed sent history
  pub sets : StoredWereSet history
  pub removals : RemovedWereDeleted history
  pub hits : HitsCameBack sent replies history

-- the facts of a fleet, and what keeps them
abbrev pub IsFaithfulWorld : WorldView → Type 0
IsFaithfulWorld w = IsFaithful w.proxies w.sent w.replies w.history
