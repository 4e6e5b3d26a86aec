-- The names of a fleet's nodes, and their lanes.
use Rattle.std.specs.Prelude.{ℕ, List, [], ◌∷◌, ◌++◌, length, fold, position, unwrap_or, bytes_eq, nat_lt, if◌then◌else◌}
use Rattle.mr_pools.specs.Routing.{RoutingView}
use Rattle.mr_world.specs.declared.setup.ProxySetup.{ProxySetup}

-- the lane of the node of this name, or how many lanes there are where none has it
abbrev pub node_lane : List (List ℕ) → List ℕ → ℕ
node_lane names name = unwrap_or (position (λ other. bytes_eq other name) names) (length names)

-- a name that isn't there yet stands behind the others
abbrev pub with_name : List (List ℕ) → List ℕ → List (List ℕ)
with_name names name = if nat_lt (node_lane names name) (length names) then names else names ++ name ∷ []

-- the names, and those of a pool
abbrev pub with_pool : List (List ℕ) → List (List ℕ) → List (List ℕ)
with_pool names pool = fold with_name names pool

-- the names, and those of a routing's pools in order
abbrev pub with_routing : List (List ℕ) → RoutingView → List (List ℕ)
with_routing names routing = fold with_pool names routing.pools

-- the names of all nodes, each once, in the order of their first appearance
abbrev pub names_of : List ProxySetup → List (List ℕ)
names_of proxies = fold (λ names proxy. with_routing names proxy.routing) [] proxies
