use Rattle.std.proofs.Common.{◌≢◌, ◌<◌, ℕ, List, slice_index_or}
use Rattle.mr_pools.proofs.pool.are_distinct.Given as goal

-- no two of the names so far are equal
abbrev pub invariant-loop-index : goal.invariant-loop-index
invariant-loop-index l =
    (i j : ℕ) (d : List ℕ) → i < j → j < l.index → slice_index_or l.names i d ≢ slice_index_or l.names j d
