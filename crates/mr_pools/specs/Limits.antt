-- The limits of pools.
use Rattle.std.specs.Prelude.{ℕ}

-- the longest name of a node, in bytes
abbrev pub longest_name : ℕ
longest_name = 255

-- the most nodes of one pool
abbrev pub most_nodes : ℕ
most_nodes = 1024

-- the most pools of one routing
abbrev pub most_pools : ℕ
most_pools = 5
