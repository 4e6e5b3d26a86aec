-- A reading of a clock, in seconds, beside the hops of the schedule in which it stands.
use Rattle.std.specs.Prelude.{ℕ, List}
use Rattle.mr_phases.specs.Schedule.{Hop}

-- a reading of a clock, and the hops by which it is judged
pub record Reading : Type 0 where
  pub hops : List Hop
  pub reading : ℕ
