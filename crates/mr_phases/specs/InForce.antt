-- Which migration is in force at a reading, and in which of its phases the reading stands.
use Rattle.std.specs.Prelude.{◌≡◌, ℕ, ◌<◌, ◌≤◌, List, Some, slice_get}
use Rattle.mr_phases.specs.declared.phase_name.PhaseName.{PhaseName}
use Rattle.mr_phases.specs.Schedule.{Hop, StandsIn}

-- the hop of this number is the last whose start is reached, or the first where none is
pub record IsInForce (hops : List Hop) (t number : ℕ) (hop : Hop) : Type 0 where
  pub there : slice_get hops number ≡ Some hop
  pub reached : 0 < number → hop.start ≤ t
  pub last : (later : ℕ) (next : Hop) → number < later → slice_get hops later ≡ Some next → t < next.start

-- the reading is in the range of this phase, in the hop in force, which has this number
pub record StandsAt (hops : List Hop) (t number : ℕ) (phase : PhaseName) : Type 0 where
  pub hop : Hop
  pub in_force : IsInForce hops t number hop
  pub range : StandsIn phase hop t
