-- How many bytes of answers wait in turn.
use Rattle.std.specs.Prelude.{ℕ, ◌+◌, ◌-◌, ◌^◌, min, length, sum_by, Option, Some, None}
use Rattle.mr_join.specs.declared.leg_reply.LegReply.{LegReply}
use Rattle.mr_join.specs.declared.leg_reply.LegReply.TheVariants.{Hit, Miss, Stored, Deleted, NotFound, Failed}
use Rattle.mr_node.specs.Command.{key_of_command}
use Rattle.mr_proxy.specs.Answer.{AnswerView}
use Rattle.mr_proxy.specs.declared.slot.Slot.{Slot}
use Rattle.mr_loop.specs.declared.turns.Turn.{Turn}
use Rattle.mr_loop.specs.declared.turns.Turn.TheVariants.{Waits, Answered, Says}

-- the item of a key that was found, as long as its text may be: VALUE, two numbers, spaces and ends of line are 29 bytes at most
abbrev pub held_by_reply : ℕ → Option LegReply → ℕ
held_by_reply key None = 0
held_by_reply key (Some (Hit flags block)) = 29 + key + length block
held_by_reply key (Some Miss) = 0
held_by_reply key (Some Stored) = 0
held_by_reply key (Some Deleted) = 0
held_by_reply key (Some NotFound) = 0
held_by_reply key (Some (Failed cause)) = 0

-- what a leg adds to the text of its request's answer, as long as it may be
abbrev pub held_by_slot : Slot → ℕ
held_by_slot slot = held_by_reply (length (key_of_command slot.sheet.command)) slot.reply

-- the items of an answer, as far as 64 bits count
abbrev pub held_by_answer : AnswerView → ℕ
held_by_answer answer = min (sum_by held_by_slot answer.slots) (2 ^ 64 - 1)

-- what is there of a request, and waits in turn
abbrev pub held_by_turn : Turn → ℕ
held_by_turn (Waits op) = 0
held_by_turn (Answered answer) = held_by_answer answer
held_by_turn (Says reply) = 0
