-- How many bytes of its answers a client is still to read.
use Rattle.std.specs.Prelude.{ℕ, ◌+◌, length, sum_by}
use Rattle.mr_loop.specs.declared.client.Client.{Client}
use Rattle.mr_loop.specs.Held.{held_by_turn}

-- the bytes that a client is to be told, and those of its answers that wait in turn
abbrev pub unread : Client → ℕ
unread client = length client.out + sum_by held_by_turn client.turns
