-- What an answer says of itself, whichever proxy gave it.
use Rattle.std.specs.Prelude.{◌≡◌, ℕ, ◌≤◌, true, length, map, Some, All, slice_get}
use Rattle.std.specs.List.{list_any}
use Rattle.mr_text.specs.declared.request.Request.{Request}
use Rattle.mr_text.specs.declared.request.Request.TheVariants as request
use Rattle.mr_history.specs.declared.op_id.OpId.{OpId}
use Rattle.mr_join.specs.declared.leg_reply.LegReply.{LegReply}
use Rattle.mr_node.specs.declared.command.NodeCommand.{NodeCommand}
use Rattle.mr_node.specs.declared.command.NodeCommand.TheVariants.{Get, Set, Delete}
use Rattle.mr_proxy.specs.declared.slot.Slot.{Slot}
use Rattle.mr_proxy.specs.Slots.{is_open, is_of_kind}
use Rattle.mr_proxy.specs.Answer.{AnswerView}

-- what the leg of this place was told: a get's key of that place, a set's item, a delete's key
abbrev pub IsCommandAt : Request → ℕ → NodeCommand → Type 0
IsCommandAt (request.Get keys) place command = slice_get (map Get keys) place ≡ Some command
IsCommandAt (request.Set key flags exptime block noreply) place command = command ≡ Set key flags exptime block
IsCommandAt (request.Delete key noreply) place command = command ≡ Delete key
IsCommandAt request.Quit place command = ⊥

-- the leg of this place of that request
pub record IsLegAt (op : OpId) (request : Request) (place : ℕ) (slot : Slot) : Type 0 where
  pub named : slot.sheet.id ≡ record { op = op; place = place }
  pub told : IsCommandAt request place slot.sheet.command

-- what was noted is a reply that a node may give to that command
abbrev pub IsOfItsKind : Slot → Type 0
IsOfItsKind slot = (reply : LegReply) → slot.reply ≡ Some reply → is_of_kind slot.sheet.command reply ≡ true

-- it has a leg, each leg is the request's of its place, each noted reply is of its leg's kind, and it was given up
-- exactly where a leg of it didn't answer
pub record IsWholeAnswer (answer : AnswerView) : Type 0 where
  pub has_leg : 1 ≤ length answer.slots
  pub legs : (place : ℕ) (slot : Slot) → slice_get answer.slots place ≡ Some slot → IsLegAt answer.op answer.request place slot
  pub kinds : All IsOfItsKind answer.slots
  pub given_up : answer.given_up ≡ list_any is_open answer.slots
