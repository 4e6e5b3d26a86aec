use Rattle.std.proofs.Common.{◌≡◌, drop, fold}
use Rattle.mr_drawing.specs.Names.{with_name}
use Rattle.mr_drawing.proofs.names.add_pool.Given as goal

-- the names so far are added, and the others are left
abbrev pub invariant-loop-name : goal.invariant-loop-name
invariant-loop-name l = fold with_name l.names.items (drop l.name-index l.name-items) ≡ fold with_name l.initial.names.items l.name-items
