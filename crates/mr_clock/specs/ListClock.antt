-- What a clock of listed readings still has to give.
use Rattle.std.specs.Prelude.{◌≡◌, ℕ, ◌+◌, List, [], ◌∷◌, Option, Some, None}

-- a clock of listed readings: each in order, none as a fault
pub record ClockList : Type 0 where
  -- the readings still to come; the last stays for good
  pub left : List (Option ℕ)
  -- how often there was none
  pub failures : ℕ

-- what comes next: none where nothing is left
abbrev pub first_reading : List (Option ℕ) → Option ℕ
first_reading [] = None
first_reading (reading ∷ later) = reading

-- what is left once that was given
abbrev pub left_after : List (Option ℕ) → List (Option ℕ)
left_after [] = []
left_after (last ∷ []) = last ∷ []
left_after (reading ∷ next ∷ later) = next ∷ later

-- one more fault where there was no reading
abbrev pub failures_after : Option ℕ → ℕ → ℕ
failures_after None failures = failures + 1
failures_after (Some reading) failures = failures

-- one call gives the next reading
pub record GivesNext (old : ClockList) (reading : Option ℕ) (new : ClockList) : Type 0 where
  pub gives : reading ≡ first_reading old.left
  pub leaves : new.left ≡ left_after old.left
  pub counts : new.failures ≡ failures_after reading old.failures
