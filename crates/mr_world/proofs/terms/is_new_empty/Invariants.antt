use Rattle.std.proofs.Common.{◌≡◌, ◌<◌, ℕ, false, slice_index_or}
use Rattle.std.specs.List.{list_any}
use Rattle.mr_world.specs.declared.setup.HeldItem.{HeldItem}
use Rattle.mr_world.specs.Terms.{is_moved_to}
use Rattle.mr_world.proofs.terms.is_new_empty.Given as goal

-- no proxy moves to a node of the items so far
abbrev pub invariant-loop-item : goal.invariant-loop-item
invariant-loop-item l =
    (k : ℕ) (d : HeldItem) → k < l.item-index → list_any (λ proxy. is_moved_to proxy.routing.pools (slice_index_or l.setup.held k d).node) l.setup.proxies ≡ false
