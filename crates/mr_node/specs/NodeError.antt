-- The numbers of the refusals.
use Rattle.std.specs.Prelude.{ℕ}
use Rattle.mr_node.specs.declared.error.NodeError.{NodeError}
use Rattle.mr_node.specs.declared.error.NodeError.TheVariants.{ZeroCapacity, OutOfMemory, ReadFault, WriteFault, TurnsSpent}

-- the number of each error
abbrev pub number_of_refusal : NodeError → ℕ
number_of_refusal ZeroCapacity = 1
number_of_refusal OutOfMemory = 2
number_of_refusal ReadFault = 3
number_of_refusal WriteFault = 4
number_of_refusal TurnsSpent = 5
