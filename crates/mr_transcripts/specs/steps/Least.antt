-- How long the text of a transcript is at least.
use Rattle.std.specs.Prelude.{ℕ, ◌/◌, ◌≤◌, List, length, sum_by}
use Rattle.serde_json.specs.Data.{Data, object}
use Rattle.mr_shown.specs.declared.format.Format.{Format}
use Rattle.mr_shown.specs.declared.format.Format.TheVariants.{One, Two}
use Rattle.mr_text.specs.declared.item.Item.{Item}
use Rattle.mr_text.specs.declared.reply.Reply.{Reply}
use Rattle.mr_text.specs.declared.reply.Reply.TheVariants.{Items}
use Rattle.mr_history.specs.declared.entry.Entry.{Entry}
use Rattle.mr_history.specs.declared.entry.Entry.TheVariants.{Stored, Answered}
use Rattle.mr_scripts.specs.Limits.{most_bytes}

-- the bytes of the items' blocks
abbrev pub blocks_length : List Item → ℕ
blocks_length items = sum_by (λ item. length item.block) items

abbrev pub blocks_of_reply : Reply → ℕ
blocks_of_reply (Items items) = blocks_length items
blocks_of_reply reply = 0

-- the bytes of what was stored or answered
abbrev pub blocks_of_entry : Entry → ℕ
blocks_of_entry (Stored by key flags block) = length block
blocks_of_entry (Answered op reply) = blocks_of_reply reply
blocks_of_entry entry = 0

-- The bytes of all blocks in a history that its text has one by one. Blocks of requests are left out: they stand in the
-- script itself, which has a limit of its own.
abbrev pub blocks_of_history : List Entry → ℕ
blocks_of_history history = sum_by blocks_of_entry history

-- The bytes of data whose text alone is as long as a transcript may be: in the second format each byte is two digits.
abbrev pub filling_data : Format → ℕ
filling_data One = most_bytes
filling_data Two = most_bytes / 2

-- the history stands in the transcript, and the text of its blocks alone is as long as a transcript may be
abbrev pub HasLongHistory : Format → Data → List Entry → Type 0
HasLongHistory format (object _) history = filling_data format ≤ blocks_of_history history
HasLongHistory format script history = ⊥
