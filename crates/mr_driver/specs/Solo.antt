-- A loop of links alone, as its caller sees it.
use Rattle.std.specs.Prelude.{ℕ}

-- the time of its last turn by its own clock, in microseconds, and its machine
pub record SoloView (M : Type 0) : Type 0 where
  pub now : ℕ
  pub machine : M
