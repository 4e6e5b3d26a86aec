-- One leg of a request: what was sent, and what came back.
use Rattle.std.specs.Prelude.{Bool, ◌&&◌, true, false, None, is_none, unwrap_or}
use Rattle.mr_text.specs.declared.cause.Cause.TheVariants.{LegLost}
use Rattle.mr_join.specs.declared.leg_reply.LegReply.{LegReply}
use Rattle.mr_join.specs.declared.leg_reply.LegReply.TheVariants.{Hit, Miss, Stored, Deleted, NotFound, Failed}
use Rattle.mr_node.specs.declared.command.NodeCommand.{NodeCommand}
use Rattle.mr_node.specs.declared.command.NodeCommand.TheVariants.{Get, Set, Delete}
use Rattle.mr_proxy.specs.declared.sheet.LegSheet.{LegSheet}
use Rattle.mr_proxy.specs.declared.slot.Slot.{Slot}

-- a leg that was sent
abbrev pub open_slot : LegSheet → Slot
open_slot sheet = record { sheet = sheet; reply = None }

-- no reply came yet
abbrev pub is_open : Slot → Bool
is_open slot = is_none slot.reply

-- a leg of which no reply came counts as lost
abbrev pub reply_of_slot : Slot → LegReply
reply_of_slot slot = unwrap_or slot.reply (Failed LegLost)

-- a node may answer this command so
abbrev pub is_of_kind : NodeCommand → LegReply → Bool
is_of_kind (Get key) (Hit flags block) = true
is_of_kind (Get key) Miss = true
is_of_kind (Set key flags exptime block) Stored = true
is_of_kind (Delete key) Deleted = true
is_of_kind (Delete key) NotFound = true
is_of_kind command (Failed cause) = true
is_of_kind command reply = false

-- the leg awaits this reply: none came yet, and a node may answer so
abbrev pub is_awaiting : Slot → LegReply → Bool
is_awaiting slot reply = is_open slot && is_of_kind slot.sheet.command reply

-- the leg failed
abbrev pub is_failed : LegReply → Bool
is_failed (Failed cause) = true
is_failed reply = false

-- the leg failed, or no reply came
abbrev pub has_failed : Slot → Bool
has_failed slot = is_failed (reply_of_slot slot)
