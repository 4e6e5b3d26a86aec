use Rattle.std.proofs.Common.{◌≡◌, map, take}
use Rattle.mr_world.specs.Positions.{node_number}
use Rattle.mr_world.proofs.network.making.numbers_in.Given as goal

-- the names so far have numbers
abbrev pub invariant-loop-name : goal.invariant-loop-name
invariant-loop-name l = l.numbers.items ≡ map (node_number l.nodes) (take l.name-index l.name-items)
