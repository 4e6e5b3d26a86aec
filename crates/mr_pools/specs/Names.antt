-- Where the names of a routing's nodes stand.
use Rattle.std.specs.Prelude.{ℕ, ◌<◌, List, [], length, slice_index_or}
use Rattle.mr_pools.specs.Routing.{RoutingView, pool_of}

-- the name at an index of the pool of a number
abbrev pub name_at : RoutingView → ℕ → ℕ → List ℕ
name_at routing number index = slice_index_or (pool_of routing number) index []

-- there is a pool of this number, and it has a node at this index
pub record HasNode (routing : RoutingView) (number index : ℕ) : Type 0 where
  pub pool : number < length routing.pools
  pub within : index < length (pool_of routing number)
