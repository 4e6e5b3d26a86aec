use Rattle.std.proofs.Common.{◌<◌, ℕ, List, Contains, slice_index_or}
use Rattle.mr_pools.proofs.pool.are_apart.Given as goal

-- none of the names so far stands in the other pool
abbrev pub invariant-loop-name : goal.invariant-loop-name
invariant-loop-name l =
    (k : ℕ) (d : List ℕ) → k < l.name-index → ¬ Contains l.new (slice_index_or l.old k d)
