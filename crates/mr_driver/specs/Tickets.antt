-- Lists of tickets, some of which are void.
use Rattle.std.specs.Prelude.{ℕ, ◌/◌, Bool, nat_lt}

-- more than half of the tickets are void, whoever of the clients has one
abbrev pub is_cluttered : ℕ → ℕ → Bool
is_cluttered tickets clients = nat_lt clients (tickets / 2)
