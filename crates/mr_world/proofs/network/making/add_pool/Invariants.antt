use Rattle.std.proofs.Common.{◌≡◌, fold, take}
use Rattle.mr_world.specs.Setup.{with_name}
use Rattle.mr_world.proofs.network.making.add_pool.Given as goal

-- the names so far have nodes
abbrev pub invariant-loop-name : goal.invariant-loop-name
invariant-loop-name l = l.nodes ≡ fold (with_name l.capacity) l.initial.nodes (take l.name-index l.name-items)
