-- The lines of nodes.
use Rattle.std.specs.Prelude.{ℕ, zero, suc, ◌+◌, ◌-◌, ◌^◌, ◌==◌, min, nat_le, is_some, unwrap_or, List, [], ◌∷◌, ◌++◌, length, if◌then◌else◌, codes, decimal}
use Rattle.mr_watch.specs.Premises.{is_in}
use Rattle.mr_watch.specs.Shown.{left, padding, short, perhaps_cell}
use Rattle.mr_watch.specs.declared.look.NodeSeen.{NodeSeen}
use Rattle.mr_watch.specs.declared.nodes.PoolSeen.{PoolSeen}

-- what stands above
unfoldable pub nodes_head : List ℕ
nodes_head = codes "pool node                       items    hits\n"

-- how many nodes of a pool have a line each
abbrev pub most_lines : ℕ
most_lines = 16

-- the number of a pool, at the right of a column of four
abbrev pub pool_cell : ℕ → List ℕ
pool_cell pool = padding (4 - length (decimal pool)) ++ (decimal pool ++ codes " ")

-- the line of a node
abbrev pub node_line : NodeSeen → List ℕ
node_line node =
    pool_cell node.pool ++ (left 24 node.name.now ++ (perhaps_cell node.items ++ (perhaps_cell node.hits ++ codes "\n")))

-- the line of a node where it is in the pool
abbrev pub line_in : ℕ → NodeSeen → List ℕ
line_in pool node = if is_in pool node then node_line node else []

-- the lines of a pool's nodes
abbrev pub lines_in : ℕ → List NodeSeen → List ℕ
lines_in pool [] = []
lines_in pool (node ∷ nodes) = line_in pool node ++ lines_in pool nodes

-- as far as 64 bits count
abbrev pub with_more : ℕ → ℕ → ℕ
with_more count more = min (count + more) (2 ^ 64 - 1)

-- the sums of no nodes
abbrev pub no_nodes : PoolSeen
no_nodes = record { nodes = 0; seen = 0; items = 0; hits = 0 }

-- one node more
abbrev pub with_node : PoolSeen → NodeSeen → PoolSeen
with_node before node = record {
  nodes = with_more before.nodes 1;
  seen = with_more before.seen (if is_some node.items then 1 else 0);
  items = with_more before.items (unwrap_or node.items 0);
  hits = with_more before.hits (unwrap_or node.hits 0);
}

-- one node more, if it is in the pool
abbrev pub pool_with : ℕ → PoolSeen → NodeSeen → PoolSeen
pool_with pool before node = if is_in pool node then with_node before node else before

-- all nodes more that are in the pool
abbrev pub pool_from : ℕ → PoolSeen → List NodeSeen → PoolSeen
pool_from pool before [] = before
pool_from pool before (node ∷ nodes) = pool_from pool (pool_with pool before node) nodes

-- the nodes of a pool, summed up
abbrev pub pool_of : ℕ → List NodeSeen → PoolSeen
pool_of pool nodes = pool_from pool no_nodes nodes

-- how many there are of what a word names, which ends in an s unless there is one
abbrev pub counted : ℕ → List ℕ → List ℕ
counted count word = short count ++ (word ++ (if count == 1 then [] else codes "s"))

-- how many nodes there are, and how many of them told what they hold
abbrev pub reached_text : PoolSeen → List ℕ
reached_text sums = short sums.nodes ++ (codes " nodes, " ++ (short sums.seen ++ codes " seen, "))

-- how many items they hold, and how many hits they had
abbrev pub held_text : PoolSeen → List ℕ
held_text sums = counted sums.items (codes " item") ++ (codes ", " ++ (counted sums.hits (codes " hit") ++ codes "\n"))

-- a pool in one line
abbrev pub sums_line : ℕ → PoolSeen → List ℕ
sums_line pool sums = pool_cell pool ++ (reached_text sums ++ held_text sums)

-- the lines of a pool: of each node, or one where there are more than 16
abbrev pub pool_text : List NodeSeen → ℕ → List ℕ
pool_text nodes pool =
    if nat_le (pool_of pool nodes).nodes most_lines then lines_in pool nodes else sums_line pool (pool_of pool nodes)

-- so many pools, in order
abbrev pub pools_text : List NodeSeen → ℕ → List ℕ
pools_text nodes zero = []
pools_text nodes (suc count) = pools_text nodes count ++ pool_text nodes count

-- all nodes, of so many pools
abbrev pub nodes_text : List NodeSeen → ℕ → List ℕ
nodes_text nodes pools = nodes_head ++ pools_text nodes pools
