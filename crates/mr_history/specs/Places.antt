-- Places in a list. A place is an index from 0.
use Rattle.std.specs.Prelude.{◌≡◌, ℕ, List, slice_get, Some}

-- the list has this element at this place
pub record At {X : Type 0} (list : List X) (place : ℕ) (element : X) : Type 0 where
  pub gets : slice_get list place ≡ Some element
