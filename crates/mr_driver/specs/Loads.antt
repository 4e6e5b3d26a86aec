-- Which loop gets the next client.
use Rattle.std.specs.Prelude.{ℕ, Bool, ◌==◌, ◌+◌, ◌-◌, ◌^◌, nat_eq, if◌then◌else◌, List, Option, fold, min, position}

-- the clients of a loop, and the greatest number there is where it has ended
abbrev pub load_of : Bool → ℕ → ℕ
load_of has_ended clients = if has_ended then 2 ^ 64 - 1 else clients

-- the first place at which the least number stands
abbrev pub place_of_least : List ℕ → Option ℕ
place_of_least loads = position (λ load. load == fold min (2 ^ 64 - 1) loads) loads

-- so many clients and those of one more loop; one that takes no more has none
abbrev pub with_load : ℕ → ℕ → ℕ
with_load clients load = if nat_eq load (2 ^ 64 - 1) then clients else min (clients + load) (2 ^ 64 - 1)

-- the clients of all loops
abbrev pub clients_in : List ℕ → ℕ
clients_in loads = fold with_load 0 loads
