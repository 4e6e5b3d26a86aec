-- Where the nodes of names stand.
use Rattle.std.specs.Prelude.{ℕ, List, bytes_eq}
use Rattle.std.specs.List.{position_or_len}
use Rattle.mr_world.specs.declared.node.Node.{Node}

-- the number of the node of this name, or how many nodes there are where none has it
abbrev pub node_number : List Node → List ℕ → ℕ
node_number nodes name = position_or_len (λ node. bytes_eq node.name name) nodes
