use Rattle.std.proofs.Common.{◌≡◌, take}
use Rattle.mr_fleet.proofs.links.copy_nodes.Given as goal

-- the copied links are the first ones
abbrev pub invariant-loop-link : goal.invariant-loop-link
invariant-loop-link g l = l.copies.items ≡ take l.link-index l.nodes
