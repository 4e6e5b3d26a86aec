use Rattle.std.proofs.Common.{ℕ, ◌<◌}
use Rattle.mr_world.specs.Setup.{HasNamedNode}
use Rattle.mr_world.proofs.network.making.names_node.Given as goal

-- none of the pools so far has it
abbrev pub invariant-loop-pool : goal.invariant-loop-pool
invariant-loop-pool l = (k : ℕ) → k < l.pool → ¬ HasNamedNode l.routing k l.name
