-- What holds of every proxy on its way from a fresh one.
use Rattle.std.specs.Prelude.{◌≡◌, ℕ, ◌<◌, ◌≤◌, ◌⊎◌, false, List, length, map, Some, None, All, AllPairs, slice_get}
use Rattle.mr_text.specs.declared.item.Item.{Item}
use Rattle.mr_text.specs.declared.request.Request.{Request}
use Rattle.mr_text.specs.declared.request.Request.TheVariants.{Get, Set, Delete, Quit}
use Rattle.mr_history.specs.declared.op_id.OpId.{OpId}
use Rattle.mr_join.specs.declared.leg_reply.LegReply.{LegReply}
use Rattle.mr_join.specs.declared.leg_reply.LegReply.TheVariants.{Hit, Deleted, NotFound}
use Rattle.mr_phases.specs.Schedule.{IsSchedule}
use Rattle.mr_pools.specs.Routing.{IsRouting}
use Rattle.mr_node.specs.declared.command.NodeCommand.TheVariants as command
use Rattle.mr_proxy.specs.declared.sheet.LegId.{LegId}
use Rattle.mr_proxy.specs.declared.sheet.LegSheet.{LegSheet}
use Rattle.mr_proxy.specs.declared.slot.Slot.{Slot}
use Rattle.mr_proxy.specs.Pending.{PendingView, is_complete}
use Rattle.mr_proxy.specs.Answer.{AnswerView}
use Rattle.mr_proxy.specs.Whole.{IsOfItsKind, IsWholeAnswer}
use Rattle.mr_proxy.specs.Sheets.{sheets_by, HaveAsManyHops}
use Rattle.mr_proxy.specs.ProxyView.{ProxyView}
use Rattle.mr_proxy.specs.Issue.{refusal_of, after_issue}
use Rattle.mr_proxy.specs.Transitions.{after_take, after_give_up, after_restart}

-- a request that has at least one leg: no Quit, and no get without a key
abbrev pub HasLegs : Request → Type 0
HasLegs (Get keys) = 1 ≤ length keys
HasLegs (Set key flags exptime block noreply) = Unit {0}
HasLegs (Delete key noreply) = Unit {0}
HasLegs Quit = ⊥

-- one step of a proxy
pub data ProxyStep (old : ProxyView) : ProxyView → Type 0 where
  issues : (t : ℕ) (request : Request) → HasLegs request → refusal_of old ≡ None → ProxyStep old (after_issue old t request)
  takes : (id : LegId) (reply : LegReply) → ProxyStep old (after_take old id reply)
  gives_up : (op : OpId) → ProxyStep old (after_give_up old op)
  restarts : ProxyStep old (after_restart old)

-- the sheet of a leg
abbrev pub sheet_of : Slot → LegSheet
sheet_of slot = slot.sheet

-- a request under way: it was named by this incarnation, its legs are those of its reading, each noted reply is of
-- its leg's kind, and a leg is open
pub record IsSoundPending (p : ProxyView) (pending : PendingView) : Type 0 where
  pub proxy : pending.op.proxy ≡ p.number
  pub incarnation : pending.op.incarnation ≡ p.incarnation
  pub number : pending.op.number < p.next
  pub sheets : map sheet_of pending.slots ≡ sheets_by p.routing p.schedule pending.op pending.reading pending.request
  pub kinds : All IsOfItsKind pending.slots
  pub waits : is_complete pending ≡ false

-- no node stands in two pools, the phases follow one another, each hop has its two pools, the requests under way are
-- sound, and they stand in order of their numbers
pub record IsSound (p : ProxyView) : Type 0 where
  pub routing : IsRouting p.routing
  pub schedule : IsSchedule p.schedule
  pub hops : HaveAsManyHops p.routing p.schedule
  pub pendings : All (IsSoundPending p) p.outstanding
  pub in_order : AllPairs (λ earlier later. earlier.op.number < later.op.number) p.outstanding

-- an answer of this proxy: it was named by this incarnation, and its legs are those of its reading
pub record IsSoundAnswer (p : ProxyView) (answer : AnswerView) : Type 0 where
  pub proxy : answer.op.proxy ≡ p.number
  pub incarnation : answer.op.incarnation ≡ p.incarnation
  pub number : answer.op.number < p.next
  pub sheets : map sheet_of answer.slots ≡ sheets_by p.routing p.schedule answer.op answer.reading answer.request
  pub whole : IsWholeAnswer answer

-- the op was given out: by an earlier incarnation, or by this one
pub record WasGivenOut (p : ProxyView) (op : OpId) : Type 0 where
  pub incarnation : op.incarnation ≤ p.incarnation
  pub number : op.incarnation ≡ p.incarnation → op.number < p.next

-- the leg found this item, and was asked for its key
pub record HasFound (slots : List Slot) (item : Item) : Type 0 where
  pub place : ℕ
  pub slot : Slot
  pub there : slice_get slots place ≡ Some slot
  pub command : slot.sheet.command ≡ command.Get item.key
  pub hit : slot.reply ≡ Some (Hit item.flags item.block)

-- a node performed the delete of that leg
pub record WasDeleted (slot : Slot) : Type 0 where
  pub reply : LegReply
  pub noted : slot.reply ≡ Some reply
  pub deleted : (reply ≡ Deleted) ⊎ (reply ≡ NotFound)
