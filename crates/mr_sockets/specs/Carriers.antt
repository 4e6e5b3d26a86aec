-- The carriers to the nodes of a routing.
use Rattle.std.specs.Prelude.{ℕ, List, map}
use Rattle.mr_sockets.specs.SocketCarrier.{SocketView, fresh_carrier}

-- one carrier for each node of each pool
abbrev pub carriers_to : ℕ → List (List (List ℕ)) → List (List SocketView)
carriers_to turns pools = map (λ names. map (fresh_carrier turns) names) pools
