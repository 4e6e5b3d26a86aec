-- The nodes by number.
use Rattle.std.specs.Prelude.{ℕ, ◌+◌, List, [], ◌∷◌, ◌++◌, map}

-- the nodes of the pools from this number on: of each the number of its pool and its name
abbrev pub nodes_from : ℕ → List (List (List ℕ)) → List (ℕ × List ℕ)
nodes_from pool [] = []
nodes_from pool (names ∷ pools) = map (λ name. (pool, name)) names ++ nodes_from (pool + 1) pools

-- all nodes, pool by pool: a node's number is its place here
abbrev pub nodes_of : List (List (List ℕ)) → List (ℕ × List ℕ)
nodes_of pools = nodes_from 0 pools
