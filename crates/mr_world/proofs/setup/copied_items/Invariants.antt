use Rattle.std.proofs.Common.{◌≡◌, take}
use Rattle.mr_world.proofs.setup.copied_items.Given as goal

-- the copied items are the first ones
abbrev pub invariant-loop-item : goal.invariant-loop-item
invariant-loop-item l = l.copied.items ≡ take l.item-index l.items.items
