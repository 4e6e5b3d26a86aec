-- What a pool is: the names of its nodes, in order.
use Rattle.std.specs.Prelude.{◌≡◌, ◌≢◌, ℕ, ◌<◌, ◌≤◌, List, [], length, All, AllPairs, Contains, Result, Ok, Err}
use Rattle.mr_pools.specs.Limits.{most_nodes}
use Rattle.mr_pools.specs.declared.error.PoolError.{PoolError}
use Rattle.mr_pools.specs.declared.error.PoolError.TheVariants.{EmptyPool, TooManyNodes, BadName, RepeatedName, SharedName, OutOfMemory, TooManyPools}

-- no two places hold the same name
abbrev pub AreDistinct : List (List ℕ) → Type 0
AreDistinct names = AllPairs (λ name later. name ≢ later) names

-- no name stands in both
abbrev pub AreApart : List (List ℕ) → List (List ℕ) → Type 0
AreApart old new = All (λ name. ¬ Contains new name) old

-- the names of a pool's nodes: 1 to 1,024 of them, no two equal
pub record IsPool (names : List (List ℕ)) : Type 0 where
  pub not_empty : 1 ≤ length names
  pub not_many : length names ≤ most_nodes
  pub distinct : AreDistinct names

-- the pool of the names, or the first of the refusals that holds
abbrev pub IsPoolOf : List (List ℕ) → Result (List (List ℕ)) PoolError → Type 0
IsPoolOf names (Ok pool) = IsPool names × (pool ≡ names)
IsPoolOf names (Err EmptyPool) = names ≡ []
IsPoolOf names (Err TooManyNodes) = most_nodes < length names
IsPoolOf names (Err RepeatedName) = (1 ≤ length names) × (length names ≤ most_nodes) × ¬ AreDistinct names
IsPoolOf names (Err BadName) = ⊥
IsPoolOf names (Err SharedName) = ⊥
IsPoolOf names (Err OutOfMemory) = ⊥
IsPoolOf names (Err TooManyPools) = ⊥
