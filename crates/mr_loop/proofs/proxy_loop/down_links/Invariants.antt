use Rattle.std.proofs.Common.{◌≡◌, ◌≤◌, ◌-◌, vec_len, replicate}
use Rattle.mr_loop.specs.Counts.{no_link_counts}
use Rattle.mr_loop.specs.Links.{down_link}
use Rattle.mr_loop.proofs.proxy_loop.down_links.Given as goal

-- the links so far are down
abbrev pub invariant-loop-alloc : goal.invariant-loop-alloc
invariant-loop-alloc l = record { down : l.links.items ≡ replicate (vec_len l.links) (down_link no_link_counts); within : vec_len l.links ≤ l.count }

abbrev pub decreases-loop-alloc : goal.decreases-loop-alloc
decreases-loop-alloc l = l.count - vec_len l.links
