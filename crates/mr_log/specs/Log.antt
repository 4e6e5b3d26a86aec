-- What becomes of a log when something happens, and when it is asked for a line.
use Rattle.std.specs.Prelude.{◌≡◌, ℕ, ◌⊎◌, [], ◌∷◌, ◌++◌, replicate, Option, None, Some, slice_get, slice_set, remove, MatchOption}
use Rattle.mr_log.specs.Kinds.{kind_of, most_kinds, number_of_kind}
use Rattle.mr_log.specs.Waiting.{LogView, kind_in, with_one_more, IsNoneOfKind, IsNoneDue, IsFirstDue}
use Rattle.mr_log.specs.declared.happening.Happening.{Happening}
use Rattle.mr_log.specs.declared.log.Said.{Said}

-- a log that has heard nothing and said nothing
abbrev pub new_log : LogView
new_log = record { waiting = []; said = replicate most_kinds None }

-- no line of its kind waits: this is the first, and its line waits behind the others
pub record BeginsToWait (old : LogView) (happening : Happening) (new : LogView) : Type 0 where
  pub none : IsNoneOfKind (kind_of happening) old.waiting
  pub waiting : new.waiting ≡ old.waiting ++ record { happening = happening; more = 0 } ∷ []
  pub same : new.said ≡ old.said

-- the line of its kind keeps its place and its happening, and counts one more
pub record CountsOneMore (old : LogView) (happening : Happening) (new : LogView) : Type 0 where
  pub place : ℕ
  pub line : Said
  pub there : slice_get old.waiting place ≡ Some line
  pub of_kind : kind_in line ≡ kind_of happening
  pub waiting : new.waiting ≡ slice_set old.waiting place (with_one_more line)
  pub same : new.said ≡ old.said

-- what happened is noted
abbrev pub Notes : LogView → Happening → LogView → Type 0
Notes old happening new = BeginsToWait old happening new ⊎ CountsOneMore old happening new

-- no line that waits may be said: nothing is said, and nothing changes
pub record SaysNothing (old : LogView) (now : ℕ) (new : LogView) : Type 0 where
  pub none : IsNoneDue old.said now old.waiting
  pub same : new ≡ old

-- the first line that may be said is said, waits no longer, and its kind was said now
pub record Says (old : LogView) (now : ℕ) (line : Said) (new : LogView) : Type 0 where
  pub place : ℕ
  pub there : slice_get old.waiting place ≡ Some line
  pub first : IsFirstDue old.said now old.waiting place
  pub left : new.waiting ≡ remove old.waiting place
  pub said : new.said ≡ slice_set old.said (number_of_kind (kind_in line)) (Some now)

-- a log that is asked for a line at a time
abbrev pub Takes : LogView → ℕ → Option Said → LogView → Type 0
Takes old now said new = MatchOption said (SaysNothing old now new) (λ line. Says old now line new)
