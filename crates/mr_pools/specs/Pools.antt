-- The pools of a routing, as they are kept.
use Rattle.std.specs.Prelude.{ℕ, List}
use Rattle.mr_pools.specs.declared.pools.Pools.{Pools}
use Rattle.mr_pools.specs.declared.pools.Pools.TheVariants.{Two, Three, Four, Five}

-- the pools in order
abbrev pub pools_in : Pools → List (List (List ℕ))
pools_in (Two pools) = pools
pools_in (Three pools) = pools
pools_in (Four pools) = pools
pools_in (Five pools) = pools
