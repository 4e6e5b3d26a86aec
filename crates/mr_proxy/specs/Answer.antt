-- The answer to a request.
use Rattle.std.specs.Prelude.{ℕ, Bool, List, map}
use Rattle.mr_text.specs.declared.request.Request.{Request}
use Rattle.mr_text.specs.declared.reply.Reply.{Reply}
use Rattle.mr_history.specs.declared.op_id.OpId.{OpId}
use Rattle.mr_join.specs.Join.{joined_reply}
use Rattle.mr_proxy.specs.declared.slot.Slot.{Slot}
use Rattle.mr_proxy.specs.Slots.{reply_of_slot}
use Rattle.mr_proxy.specs.Pending.{PendingView}

-- an answer: the request's name and text, the reading that judged it, its legs, and whether it was given up
pub record AnswerView : Type 0 where
  pub op : OpId
  pub request : Request
  pub reading : ℕ
  pub slots : List Slot
  pub given_up : Bool

-- the answer to a request as it stands
abbrev pub answer_of : PendingView → Bool → AnswerView
answer_of pending given_up =
    record { op = pending.op; request = pending.request; reading = pending.reading; slots = pending.slots; given_up = given_up }

-- what the client is told: the join of what the legs came to
abbrev pub reply_of : AnswerView → Reply
reply_of answer = joined_reply answer.request (map reply_of_slot answer.slots)
