-- What a proxy does with a reply, with a request that is given up, and at a restart.
use Rattle.std.specs.Prelude.{ℕ, ◌+◌, true, false, List, [], Option, Some, None, slice_get, slice_set, remove, sum_by, count_by, if◌then◌else◌}
use Rattle.std.specs.Option.{option_and_then}
use Rattle.std.specs.List.{position_or_len}
use Rattle.mr_history.specs.declared.op_id.OpId.{OpId}
use Rattle.mr_join.specs.declared.leg_reply.LegReply.{LegReply}
use Rattle.mr_proxy.specs.declared.sheet.LegId.{LegId}
use Rattle.mr_proxy.specs.declared.sheet.LegSheet.{LegSheet}
use Rattle.mr_proxy.specs.declared.slot.Slot.{Slot}
use Rattle.mr_proxy.specs.declared.taken.Taken.{Taken}
use Rattle.mr_proxy.specs.declared.taken.Taken.TheVariants.{Waiting, Answered, Stranger}
use Rattle.mr_proxy.specs.Slots.{is_open}
use Rattle.mr_history.specs.OpIds.{is_same_op}
use Rattle.mr_proxy.specs.Pending.{PendingView, is_complete, with_reply}
use Rattle.mr_proxy.specs.Answer.{AnswerView, answer_of}
use Rattle.mr_proxy.specs.ProxyView.{ProxyView}

-- where the request of an op stands among those under way; how many there are where it doesn't
abbrev pub place_of_op : List PendingView → OpId → ℕ
place_of_op list op = position_or_len (λ pending. is_same_op pending.op op) list

-- the request of an op, where it is under way
abbrev pub pending_with : List PendingView → OpId → Option PendingView
pending_with list op = slice_get list (place_of_op list op)

-- the leg of an id, where its request is under way
abbrev pub slot_with : List PendingView → LegId → Option Slot
slot_with list id = option_and_then (λ pending. slice_get pending.slots id.place) (pending_with list id.op)

-- the sheet of a leg that may answer yet
abbrev pub open_sheet_in : Option Slot → Option LegSheet
open_sheet_in None = None
open_sheet_in (Some slot) = if is_open slot then Some slot.sheet else None

-- the sheet of the leg of an id, where that may answer yet
abbrev pub open_sheet : ProxyView → LegId → Option LegSheet
open_sheet p id = open_sheet_in (slot_with p.outstanding id)

-- how many legs may answer yet
abbrev pub open_legs_of : ProxyView → ℕ
open_legs_of p = sum_by (λ pending. count_by is_open pending.slots) p.outstanding

-- the request of the leg with this reply noted; none where no leg awaits the reply
abbrev pub noted_by : ProxyView → LegId → LegReply → Option PendingView
noted_by p id reply = option_and_then (λ pending. with_reply pending id.place reply) (pending_with p.outstanding id.op)

-- a request leaves once no leg is open, and else stays at its place
abbrev pub settled : ProxyView → ℕ → Option PendingView → ProxyView
settled p place None = p
settled p place (Some pending) =
    if is_complete pending then record p { outstanding = remove p.outstanding place }
    else record p { outstanding = slice_set p.outstanding place pending }

-- a stranger changes nothing
abbrev pub after_take : ProxyView → LegId → LegReply → ProxyView
after_take p id reply = settled p (place_of_op p.outstanding id.op) (noted_by p id reply)

-- what becomes of a reply, by the request in which it was noted: none, one that waits on, or one that is answered
abbrev pub taken_by : LegReply → Option PendingView → Taken
taken_by reply None = Stranger reply
taken_by reply (Some pending) = if is_complete pending then Answered (answer_of pending false) else Waiting

-- what becomes of a reply
abbrev pub taken_of : ProxyView → LegId → LegReply → Taken
taken_of p id reply = taken_by reply (noted_by p id reply)

-- the request at this place leaves, where there is one
abbrev pub left_by : ProxyView → ℕ → Option PendingView → ProxyView
left_by p place None = p
left_by p place (Some pending) = record p { outstanding = remove p.outstanding place }

-- the request of this op leaves; where it isn't under way nothing changes
abbrev pub after_give_up : ProxyView → OpId → ProxyView
after_give_up p op = left_by p (place_of_op p.outstanding op) (pending_with p.outstanding op)

-- the answer to a request that is given up, where there is one
abbrev pub given_up_in : Option PendingView → Option AnswerView
given_up_in None = None
given_up_in (Some pending) = Some (answer_of pending true)

-- the answer to the request of this op as it stands, where it is under way
abbrev pub given_up_of : ProxyView → OpId → Option AnswerView
given_up_of p op = given_up_in (pending_with p.outstanding op)

-- nothing is under way, the last reading is forgotten, and numbers begin again in the next incarnation
abbrev pub after_restart : ProxyView → ProxyView
after_restart p = record p { incarnation = p.incarnation + 1; next = 0; last = None; outstanding = [] }
