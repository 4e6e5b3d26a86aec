-- A node whose keys are hashed by a seed, as contracts see it.
use Rattle.std.specs.Prelude.{◌≡◌, ℕ, Result, Ok, Err}
use Rattle.std.specs.declared.random_state.RandomState.{RandomState}
use Rattle.mr_node.specs.Recency.{CacheView, IsNewCache}
use Rattle.mr_node.specs.declared.error.NodeError.{NodeError}

-- a cache, and the seed by which its keys are hashed
pub record SeededView : Type 0 where
  pub cache : CacheView
  -- what its keys are hashed by
  pub seed : RandomState

-- an empty node of that capacity with this seed, or why there is none
abbrev pub IsSeededNode : ℕ → RandomState → Result SeededView NodeError → Type 0
IsSeededNode capacity seed (Ok node) = IsNewCache capacity (Ok node.cache) × (node.seed ≡ seed)
IsSeededNode capacity seed (Err refusal) = IsNewCache capacity (Err refusal)
