-- Elements of lists.
use Rattle.std.specs.Prelude.{ℕ, List}
use Rattle.mr_history.specs.Places.{At}

-- the list has this element
pub record Has {X : Type 0} (list : List X) (element : X) : Type 0 where
  pub place : ℕ
  pub there : At list place element
