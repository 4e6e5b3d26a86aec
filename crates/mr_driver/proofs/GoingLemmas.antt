-- How a machine goes on.
use Rattle.mr_driver.specs.Going.{GoesOn}

module _ {M : Type 0} (steps : M → M → Type 0) where
  -- it may stay as it is
  pub stays : (m : M) → GoesOn steps m m
  stays m = GoesOn.stays

  -- one step
  pub once : (old new : M) → steps old new → GoesOn steps old new
  once old new step = GoesOn.goes_on GoesOn.stays step

  -- some steps, and then others
  pub through : (old between new : M) → GoesOn steps old between → GoesOn steps between new → GoesOn steps old new
  through old between new first GoesOn.stays = first
  through old between new first (GoesOn.goes_on more step) = GoesOn.goes_on (through old _ _ first more) step
