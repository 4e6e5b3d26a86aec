-- The lines of pools, pool by pool.
use Rattle.std.proofs.Common.{◌≡◌, ℕ, ◌+◌, List, ◌++◌, append_assoc, add-one}
use Rattle.mr_watch.specs.Nodes.{pool_text, pools_text}
use Rattle.mr_watch.specs.declared.look.NodeSeen.{NodeSeen}

pub pools_text-more : (nodes : List NodeSeen) (count : ℕ) (first before after : List ℕ) → before ≡ first ++ pools_text nodes count
    → after ≡ before ++ pool_text nodes count → after ≡ first ++ pools_text nodes (count + 1)
pools_text-more nodes count first before after e f =
    rw (f, e, add-one) (append_assoc first (pools_text nodes count) (pool_text nodes count))
