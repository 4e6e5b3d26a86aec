-- What a routing is: its pools, the oldest one first, and the hash that places keys in them.
use Rattle.std.specs.Prelude.{◌≡◌, ℕ, ◌<◌, ◌≤◌, ◌%◌, List, [], ◌∷◌, ◌++◌, length, slice_index_or, All, Result, Ok, Err}
use Rattle.mr_pools.specs.Hash.{spot_by}
use Rattle.mr_pools.specs.Limits.{most_pools}
use Rattle.mr_pools.specs.Pool.{IsPool, AreApart}
use Rattle.mr_pools.specs.declared.hash.NamedHash.{NamedHash}
use Rattle.mr_pools.specs.declared.error.PoolError.{PoolError}
use Rattle.mr_pools.specs.declared.error.PoolError.TheVariants.{EmptyPool, TooManyNodes, BadName, RepeatedName, SharedName, OutOfMemory, TooManyPools}

-- pools in the order of the hops between them, each as its nodes' names, and the hash that spreads keys
pub record RoutingView : Type 0 where
  pub pools : List (List (List ℕ))
  pub hash : NamedHash

-- the pool of a number: 0 is the oldest one
abbrev pub pool_of : RoutingView → ℕ → List (List ℕ)
pool_of routing number = slice_index_or routing.pools number []

-- the index of the node that keeps a key: the key's hash modulo the number of nodes
abbrev pub place_of : NamedHash → List (List ℕ) → List ℕ → ℕ
place_of hash pool key = spot_by hash key % length pool

-- a routing from one pool to another
abbrev pub routing_between : List (List ℕ) → List (List ℕ) → NamedHash → RoutingView
routing_between old new hash = record { pools = old ∷ new ∷ []; hash = hash }

-- the routing that goes on to one more pool
abbrev pub routing_onto : RoutingView → List (List ℕ) → RoutingView
routing_onto routing pool = record { pools = routing.pools ++ pool ∷ []; hash = routing.hash }

-- what holds of each routing: two to five pools, and no node that stands in two of them
-- (from: MigrateRoute; several in a row, the hash, and their bounds own)
pub record IsRouting (routing : RoutingView) : Type 0 where
  pub migrates : 2 ≤ length routing.pools
  pub few : length routing.pools ≤ most_pools
  pub sized : (number : ℕ) → number < length routing.pools → IsPool (pool_of routing number)
  pub apart : (earlier later : ℕ) → earlier < later → later < length routing.pools
      → AreApart (pool_of routing earlier) (pool_of routing later)

-- the routing between the pools, or SharedName where a name stands in both
abbrev pub IsRoutingOf : List (List ℕ) → List (List ℕ) → NamedHash → Result RoutingView PoolError → Type 0
IsRoutingOf old new hash (Ok routing) = AreApart old new × (routing ≡ routing_between old new hash)
IsRoutingOf old new hash (Err e) = (e ≡ SharedName) × ¬ AreApart old new

-- no name of the pool stands in a pool of the routing
abbrev pub StandsApart : RoutingView → List (List ℕ) → Type 0
StandsApart routing pool = All (λ earlier. AreApart earlier pool) routing.pools

-- the first of the refusals of one more pool that holds
abbrev pub RefusesPool : RoutingView → List (List ℕ) → PoolError → Type 0
RefusesPool routing pool TooManyPools = length routing.pools ≡ most_pools
RefusesPool routing pool SharedName = (length routing.pools < most_pools) × ¬ StandsApart routing pool
RefusesPool routing pool EmptyPool = ⊥
RefusesPool routing pool TooManyNodes = ⊥
RefusesPool routing pool BadName = ⊥
RefusesPool routing pool RepeatedName = ⊥
RefusesPool routing pool OutOfMemory = ⊥

-- the routing that goes on to the pool, or the first refusal that holds, beside the routing and the pool as they were
abbrev pub IsLonger : RoutingView → List (List ℕ) → Result RoutingView (PoolError × RoutingView × List (List ℕ))
    → Type 0
IsLonger routing pool (Ok longer) =
    (length routing.pools < most_pools) × StandsApart routing pool × (longer ≡ routing_onto routing pool)
IsLonger routing pool (Err (refusal, same, kept)) = RefusesPool routing pool refusal × (same ≡ routing) × (kept ≡ pool)
