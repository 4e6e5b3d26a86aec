-- Which pools a request goes to at a reading. Hop j moves from pool j, its old side, to pool j + 1, its new side.
use Rattle.std.specs.Prelude.{ℕ, ◌+◌, ◌≤◌, List, map, Contains}
use Rattle.mr_phases.specs.declared.side.Side.{Side}
use Rattle.mr_phases.specs.declared.side.Side.TheVariants.{Old, New}
use Rattle.mr_phases.specs.Schedule.{Hop, hop_of, phase_of}
use Rattle.mr_phases.specs.Sides.{read_side_of, delete_sides_of}

-- the pool of a side of a hop, counted from 0
abbrev pub pool_number : ℕ → Side → ℕ
pool_number hop Old = hop
pool_number hop New = hop + 1

-- the pool of gets and sets
abbrev pub read_pool : List Hop → ℕ → ℕ
read_pool hops t = pool_number (hop_of hops t) (read_side_of (phase_of hops t))

-- the pools of a delete
abbrev pub delete_pools : List Hop → ℕ → List ℕ
delete_pools hops t = map (pool_number (hop_of hops t)) (delete_sides_of (phase_of hops t))

-- one of the pools is this one or a later one
pub record SomeFrom (pools : List ℕ) (pool : ℕ) : Type 0 where
  pub found : ℕ
  pub has : Contains pools found
  pub from : pool ≤ found
