-- A request that is under way.
use Rattle.std.specs.Prelude.{ℕ, Bool, not, List, Option, Some, None, slice_get, slice_set, if◌then◌else◌}
use Rattle.std.specs.List.{list_any}
use Rattle.mr_text.specs.declared.request.Request.{Request}
use Rattle.mr_history.specs.declared.op_id.OpId.{OpId}
use Rattle.mr_join.specs.declared.leg_reply.LegReply.{LegReply}
use Rattle.mr_proxy.specs.declared.slot.Slot.{Slot}
use Rattle.mr_proxy.specs.Slots.{is_open, is_awaiting}

-- the request with the reading by which it was judged, and its legs in order of place
pub record PendingView : Type 0 where
  pub op : OpId
  pub request : Request
  pub reading : ℕ
  pub slots : List Slot

-- no leg is left that may answer yet
abbrev pub is_complete : PendingView → Bool
is_complete pending = not (list_any is_open pending.slots)

-- the request with this reply noted for this leg, where there is one and it awaits the reply
abbrev pub with_reply_in : PendingView → ℕ → LegReply → Option Slot → Option PendingView
with_reply_in pending place reply None = None
with_reply_in pending place reply (Some slot) =
    if is_awaiting slot reply
    then Some (record pending { slots = slice_set pending.slots place (record { sheet = slot.sheet; reply = Some reply }) })
    else None

-- the request with this reply noted for the leg of this place; none where that leg doesn't await it
abbrev pub with_reply : PendingView → ℕ → LegReply → Option PendingView
with_reply pending place reply = with_reply_in pending place reply (slice_get pending.slots place)
