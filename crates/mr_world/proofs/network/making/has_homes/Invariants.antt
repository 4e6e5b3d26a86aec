use Rattle.std.proofs.Common.{ℕ, ◌<◌, slice_index_or}
use Rattle.mr_world.specs.declared.setup.HeldItem.{HeldItem}
use Rattle.mr_world.specs.Setup.{IsNamed}
use Rattle.mr_world.proofs.network.making.has_homes.Given as goal

-- the nodes of the items so far are there
abbrev pub invariant-loop-item : goal.invariant-loop-item
invariant-loop-item l = (k : ℕ) (d : HeldItem) → k < l.item-index → IsNamed l.setup.proxies (slice_index_or l.setup.held k d).node
